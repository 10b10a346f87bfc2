-- By its channel an endpoint that leaves keeps its configuration or has none any more: what is written is what storing the
-- endpoints with that one gone writes.
use Rattle.std.proofs.Common.{◌≡◌, ℕ, ◌<◌, Bool, true, false, List, if◌then◌else◌, sym, ap, ◌∙◌}
use Rattle.rules.specs.Endpoints.{Endpoint, is_up, idle_head, idle, end_at, in_state, moved_by, forgotten, leaving}
use Rattle.rules.specs.Saved.{head_in, ends_in, record_at}
use Rattle.rules.specs.declared.State.{State}
use Rattle.saved.specs.Held.{Held}
use Rattle.saved.proofs.OneStore.{loaded_one, head_emptied}
use Rattle.commands_stream.specs.Left.{left_by, left_at}
use Rattle.saved.proofs.HeadMoved.{stored_with, endpoint_at, by_move}

module _ (n i : ℕ) (l : List ℕ) (inside : i < n) (held : Held n l) where
  left_by_stored : (up : Bool) (to : State)
      → left_by up to i l
      ≡ stored_with n i l (if up then moved_by (in_state to) (endpoint_at i l) else forgotten (endpoint_at i l))
  unfolding forgotten idle
  left_by_stored true to = by_move n i l inside held (in_state to)
  left_by_stored false to = head_emptied n i l inside held (idle_head (head_in (record_at i l)).seid)

  pub left_stored : (to : State) → left_at to i l ≡ stored_with n i l (leaving to (end_at (ends_in n l) i))
  unfolding leaving
  left_stored to =
      left_by_stored (is_up (head_in (record_at i l)).channel) to
      ∙ ap (λ (e : Endpoint). stored_with n i l (leaving to e)) (sym (loaded_one n i l inside))
