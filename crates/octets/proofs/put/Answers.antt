-- `put` meets its contract: before each turn the first i octets of `src` stand in `dst`, and eight more from a place among those
-- or right behind them make a longer front of `src` (`patch_further`).
use Prim.Native.Nat.{ℕ, ◌+◌, ◌-◌, ◌≤◌}
use mathlib.Core.Path.{◌≡◌, refl, ap, ◌∙◌}
use mathlib.Core.List.{List}
use native.Mathlib.Omega.{arith}
use lib.ListN.{length, take}
use lib.Seq.{take_all}
use Rattle.octets.specs.Patch.{patch, part}
use Rattle.octets.proofs.Patches.{patch_none, patch_further}
use Rattle.octets.proofs.put.Goals as goal

-- eight more octets, from the k-th on
more : (d₀ d e s : List ℕ) (at i k : ℕ) → d ≡ patch at (take i s) d₀ → e ≡ patch (at + k) (part k 8 s) d → k ≤ i → i ≤ k + 8
    → k + 8 ≤ length s → at + length s ≤ length d₀ → e ≡ patch at (take (k + 8) s) d₀
more d₀ d e s at i k f g p q r h = g ∙ ap (patch (at + k) (part k 8 s)) f ∙ patch_further at i k 8 s d₀ p q r (omega arith)

-- all of them
whole : (d₀ d s : List ℕ) (at n : ℕ) → d ≡ patch at (take n s) d₀ → length s ≤ n → d ≡ patch at s d₀
whole d₀ d s at n f h = f ∙ ap (λ (l : List ℕ). patch at l d₀) (take_all n s h)

pub loop-i-init : goal.loop-i-init
loop-i-init c =
    (patch_none c.args.at c.args.dst.now, omega arith, refl)

pub loop-i-preserved : goal.loop-i-preserved
loop-i-preserved c = (
  more c.args.dst.now c.loop-i.dst c.put_eight.new.dst c.args.src.now c.args.at c.loop-i.i
      c.loop-i.i c.loop-i.invariant.0 c.put_eight.ensures (omega arith) (omega arith) (omega arith)
      (omega arith),
  omega arith,
  omega arith,
)

pub returns : goal.returns
returns c =
    let last = length c.args.src.now - 8 in
    whole c.args.dst.now c.put_eight-2.new.dst c.args.src.now c.args.at (last + 8)
    (more c.args.dst.now c.loop-i.dst c.put_eight-2.new.dst c.args.src.now c.args.at c.loop-i.i
    last c.loop-i.invariant.0 c.put_eight-2.ensures (omega arith) (omega arith) (omega arith) (omega arith))
    (omega arith)
