-- What is kept of a configuration, and what is asked where it is written anew.
use Rattle.std.specs.Prelude.{ℕ, ◌+◌, ◌*◌, ◌≤◌, ◌≡◌, List, ◌++◌, true, length, Ok}
use Rattle.rules.specs.Elements.{items, could_store}
use Rattle.rules.specs.Saved.{record_room, config_room, head_in, head_octets, record_at}
use Rattle.rules.specs.declared.Head.{Head}
use Rattle.rules.specs.declared.Rule.TheVariants.{Reconfiguring}
use Rattle.elements.specs.Walks.{check_of}
use Rattle.elements.specs.declared.marks.Marks.{Marks}
use Rattle.elements_reader.specs.Orders.{TransportFirst}
use Rattle.octets.specs.Patch.{part}
use Rattle.book.specs.declared.places.Place.{Place}
use Rattle.saved.specs.Records.{config_size_at, config_at}

-- the octets of a record with this configuration: the head, which tells its length, and the configuration
unfoldable pub kept_octets : Head → List ℕ → List ℕ
kept_octets h config = head_octets h (length config) ++ config

-- a place of a book where a list stands that begins with the media transport
pub record Offers (book : List ℕ) (at : Place) : Type 0 where
  pub inside : at.from + at.size ≤ length book
  pub first : TransportFirst (part at.from at.size book)

-- an endpoint that can be configured anew: record i has this head and a configuration that the list which it offers could store,
-- and the elements of the payload have no fault
pub record Renews (records payload : List ℕ) (i : ℕ) (h : Head) (m : Marks) : Type 0 where
  pub caps : List ℕ
  pub inside : (i + 1) * record_room ≤ length records
  pub head : h ≡ head_in (record_at i records)
  pub told : config_size_at i records ≤ config_room
  pub could : could_store (items caps) (config_at i records) ≡ true
  pub few : length caps ≤ 64
  pub clean : check_of Reconfiguring (items caps) payload 1 ≡ Ok m
