-- Channel up, by place: the first endpoint that awaits its channel gets it. By induction on the endpoints before it.
use Prim.Native.Nat.{ℕ, zero, suc, ◌≤◌, ◌<◌, zero-le, suc-le-suc}
use mathlib.Core.Path.{◌≡◌, refl, ap}
use mathlib.Core.List.{[], ◌∷◌}
use mathlib.Core.Bool.{true, false}
use native.Mathlib.Omega.{arith}
use lib.ListN.{length, set}
use Rattle.rules.specs.Endpoints.{Endpoint, Ends, end_at, is_awaited, awaiting, up_in, with_channel, moved_by}
use Rattle.rules.specs.declared.Channel.TheVariants.{Up}

-- none of the first i endpoints awaits a channel
abbrev pub NoneBefore : Ends → ℕ → Type 0
NoneBefore ends i = (j : ℕ) → j < i → is_awaited (end_at ends j).head.channel ≡ false

rest_before : (e : Endpoint) (ends : Ends) (i : ℕ) → NoneBefore (e ∷ ends) (suc i) → NoneBefore ends i
unfolding end_at
rest_before e ends i h j b = h (suc j) (suc-le-suc b)

pub none_awaits : (ends : Ends) → NoneBefore ends (length ends) → awaiting ends ≡ 0
unfolding awaiting end_at
none_awaits [] h = refl
none_awaits (e ∷ ends) h = rw (h 0 (suc-le-suc zero-le), none_awaits ends (rest_before e ends (length ends) h))

pub first_up : (ends : Ends) (i : ℕ) → NoneBefore ends i → i < length ends → is_awaited (end_at ends i).head.channel ≡ true
    → up_in ends ≡ set ends i (moved_by (with_channel Up) (end_at ends i))
unfolding up_in end_at
first_up [] i h b a = absurd (omega arith)
first_up (e ∷ ends) zero h b a = rw a
first_up (e ∷ ends) (suc i) h b a =
    rw (h 0 (suc-le-suc zero-le)) (ap (λ (x : Ends). e ∷ x) (first_up ends i (rest_before e ends i h) (omega arith) a))

pub some_awaits : (ends : Ends) (i : ℕ) → i < length ends → is_awaited (end_at ends i).head.channel ≡ true → 1 ≤ awaiting ends
unfolding awaiting end_at
some_awaits [] i b a = absurd (omega arith)
some_awaits (e ∷ ends) zero b a = rw a (omega arith)
some_awaits (e ∷ ends) (suc i) b a = omega (arith, some_awaits ends i (omega arith) a)
