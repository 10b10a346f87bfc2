-- `serve_joined` meets its contract: what `assemble` wrote is lent to `serve`.
use Prim.Native.Nat.{ℕ, ◌+◌, ◌≤◌}
use mathlib.Core.Path.{◌≡◌, sym, ap, subst, ◌∙◌}
use mathlib.Core.List.{List, ◌++◌}
use native.Mathlib.Omega.{arith}
use lib.ListN.{length, take, drop, get_or, length-take}
use lib.Seq.{take_at}
use Rattle.rules.specs.Octets.{front}
use Rattle.rules.proofs.SavedReads.{front_length}
use Rattle.saved.specs.Serves.{Serves}
use Rattle.bridge_packet.specs.Taken.{joined_payload, served}
use Rattle.rules.specs.Saved.{gathering_room, records_of, pair_in, gathering_at}
use Rattle.bridge_packet.proofs.LinkBack.{link_whole}
use Rattle.bridge_packet.proofs.serve_joined.Goals as goal
use Rattle.bridge_packet.proofs.serve_joined.Goals.{After-assemble-length}

-- a message written at the front of an area, and lent from there
module _ (message area after : List ℕ) (n : ℕ) (fits : length message ≤ length area) (e : after ≡ front message area)
    (size : n ≡ length message) where
  within : n ≡ length (take n after)
  within = let f = ap length e ∙ front_length message area fits in omega (arith, length-take n after)

  lent : take n after ≡ message
  unfolding front
  lent = ap (take n) e ∙ take_at message (drop (length message) area) n (omega arith)

-- what is written, by the link part that was lent
abbrev whole : List ℕ → List ℕ → List ℕ
whole link packet = (gathering_at link).message.payload ++ drop 1 packet

same : (c : After-assemble-length)
    → whole c.link_of.result.now c.args.packet.now ≡ joined_payload c.args.saved.now c.args.packet.now
unfolding joined_payload
same c = ap (λ (x : List ℕ). whole x c.args.packet.now) c.link_of.ensures

short : (c : After-assemble-length) → length (whole c.link_of.result.now c.args.packet.now) ≤ 512
short c = omega (arith, ap length (same c), c.requires.serves.short)

lent_at : (c : After-assemble-length)
    → take c.assemble-length.result c.assemble-length.new.message ≡ joined_payload c.args.saved.now c.args.packet.now
lent_at c = lent _ _ _ _ (short c) c.assemble-length.ensures.written c.assemble-length.ensures.size ∙ same c

pub assemble-length-requires : goal.assemble-length-requires
assemble-length-requires c =
    let same_link = sym c.link_of.ensures in
    record {
      room_whole = subst (λ (x : List ℕ). length x ≡ gathering_room) same_link (link_whole c.args.saved.now c.requires.long);
      packet_begun = c.requires.header;
      gathered_fits = subst (λ (x : List ℕ). pair_in (get_or x 6 0) (get_or x 7 0) ≤ 512) same_link c.requires.gathered;
      message_fits =
          subst (λ (x : List ℕ). length (gathering_at x).message.payload + length (drop 1 c.args.packet.now) ≤ 512) same_link
          c.requires.fits;
    }

pub slice_bounds-serve-end : goal.slice_bounds-serve-end
slice_bounds-serve-end c =
    within _ _ _ _ (short (goal.at.slice_bounds-serve-end c).After-assemble-length) c.assemble-length.ensures.written
    c.assemble-length.ensures.size

pub serve-requires : goal.serve-requires
serve-requires c = (
  c.requires.long,
  subst (λ (x : List ℕ). Serves c.args.book.octets.now (records_of c.args.saved.now) x c.args.reply.now)
      (sym (lent_at (goal.at.serve-requires c).After-assemble-length))
      c.requires.serves,
)

pub returns : goal.returns
returns c =
    c.serve.ensures
    ∙ ap
    (λ (x : List ℕ).
    served c.args.book.octets.now (record { header = c.args.header; payload = x })
    c.args.saved.now c.args.reply.now)
    (lent_at (goal.at.returns c).After-assemble-length)
