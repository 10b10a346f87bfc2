-- The head alone of one record written is what storing the endpoints with that one moved writes.
use Prim.Native.Nat.{ℕ, ◌*◌, ◌<◌}
use mathlib.Core.Path.{◌≡◌, sym, ap, ◌∙◌}
use mathlib.Core.List.{List}
use lib.ListN.{set}
use Rattle.rules.specs.Endpoints.{Endpoint, end_at, moved_by}
use Rattle.rules.specs.Saved.{record_room, record_at, head_in, head_octets, ends_in, store_ends}
use Rattle.rules.specs.declared.Head.{Head}
use Rattle.octets.specs.Patch.{patch}
use Rattle.saved.specs.Records.{config_size_at, config_at}
use Rattle.saved.specs.Held.{Held}
use Rattle.saved.proofs.OneStore.{loaded_one, head_moved}

-- what is stored with this endpoint in the place of the one at i
abbrev pub stored_with : ℕ → ℕ → List ℕ → Endpoint → List ℕ
stored_with n i l e = store_ends (set (ends_in n l) i e) l

-- the endpoint of record i, as the code has loaded it
abbrev pub endpoint_at : ℕ → List ℕ → Endpoint
endpoint_at i l = record { head = head_in (record_at i l); config = config_at i l }

module _ (n i : ℕ) (l : List ℕ) (inside : i < n) (held : Held n l) where
  pub by_move : (move : Head → Head)
      → patch (i * record_room) (head_octets (move (head_in (record_at i l))) (config_size_at i l)) l
      ≡ stored_with n i l (moved_by move (endpoint_at i l))
  unfolding moved_by
  by_move move = head_moved n i l inside held (move (head_in (record_at i l)))

  pub moved_stored : (move : Head → Head)
      → patch (i * record_room) (head_octets (move (head_in (record_at i l))) (config_size_at i l)) l
      ≡ stored_with n i l (moved_by move (end_at (ends_in n l) i))
  moved_stored move =
      by_move move ∙ ap (λ (e : Endpoint). stored_with n i l (moved_by move e)) (sym (loaded_one n i l inside))
