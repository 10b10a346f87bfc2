-- A codec's value against an offered one: both have their first two octets and what stands behind them, or it is not within.
use Prim.Native.Nat.{ℕ, suc, ◌-◌, ◌/◌, ◌≤◌, ◌<◌}
use mathlib.Core.Path.{◌≡◌, refl, sym, ap₂}
use mathlib.Core.List.{List, [], ◌∷◌}
use mathlib.Core.Bool.{false, ◌&&◌}
use native.Mathlib.Omega.{arith}
use lib.ListN.{length, take, drop, get_or}
use lib.Seq.{take_all}
use lib.Dec.{eqb}
use Rattle.rules.specs.Elements.{bits_within, codec_within}

pub lone_value : (v w : List ℕ) → length v < 2 → codec_within v w ≡ false
unfolding codec_within
lone_value [] w h = refl
lone_value (m ∷ []) w h = refl
lone_value (m ∷ t ∷ v) w h = absurd (omega arith)

pub lone_offer : (v w : List ℕ) → length w < 2 → codec_within v w ≡ false
unfolding codec_within
lone_offer [] w h = refl
lone_offer (m ∷ []) w h = refl
lone_offer (m ∷ t ∷ v) [] h = refl
lone_offer (m ∷ t ∷ v) (n ∷ []) h = refl
lone_offer (m ∷ t ∷ v) (n ∷ u ∷ w) h = absurd (omega arith)

pub by_octets : (v w : List ℕ) → 2 ≤ length v → 2 ≤ length w
    → codec_within v w
    ≡ eqb (get_or v 0 0 / 16) (get_or w 0 0 / 16) && eqb (get_or v 1 0) (get_or w 1 0)
    && bits_within (take (length v - 2) (drop 2 v)) (take (length w - 2) (drop 2 w))
unfolding codec_within
by_octets [] w h k = absurd (omega arith)
by_octets (m ∷ []) w h k = absurd (omega arith)
by_octets (m ∷ t ∷ v) [] h k = absurd (omega arith)
by_octets (m ∷ t ∷ v) (n ∷ []) h k = absurd (omega arith)
by_octets (m ∷ t ∷ v) (n ∷ u ∷ w) h k =
    ap₂ (λ x y. eqb (m / 16) (n / 16) && eqb t u && bits_within x y)
    (sym (take_all (suc (suc (length v)) - 2) v (omega arith))) (sym (take_all (suc (suc (length w)) - 2) w (omega arith)))
