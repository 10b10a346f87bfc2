-- `put_few` meets its contract: after i turns the first i octets of `src` stand in `dst`, which is `lib.Seq`'s `paste`.
use Prim.Native.Nat.{ℕ, ◌+◌, ◌<◌}
use mathlib.Core.Path.{◌≡◌, refl, ◌∙◌}
use mathlib.Core.List.{List, append_assoc}
use native.Mathlib.Numerals.{add-one}
use native.Mathlib.Omega.{arith}
use lib.ListN.{length, take, drop, get_or, set, length-set}
use lib.Seq.{paste, paste-zero, paste-suc, take_all}
use Rattle.octets.specs.Patch.{patch}
use Rattle.octets.proofs.put_few.Goals as goal

-- a turn's store
turn : (d₀ d s : List ℕ) (at i : ℕ) → d ≡ paste d₀ at s i → at + i < length d₀ → i < length s
    → set d (at + i) (get_or s i 0) ≡ paste d₀ at s (i + 1)
turn d₀ d s at i e p q = rw (e, add-one) (paste-suc d₀ at s i 0 p q)

-- all turns
whole : (d₀ d s : List ℕ) (at i : ℕ) → d ≡ paste d₀ at s i → i ≡ length s → d ≡ patch at s d₀
unfolding patch
whole d₀ d s at i e n = e ∙ rw (n, take_all (length s) s (omega arith)) (append_assoc (take at d₀) s (drop (at + length s) d₀))

pub loop-i-init : goal.loop-i-init
loop-i-init c =
    (paste-zero c.args.dst.now c.args.to c.args.src.now, omega arith, refl)

pub loop-i-preserved : goal.loop-i-preserved
loop-i-preserved c = (
  turn c.args.dst.now c.loop-i.dst c.args.src.now c.args.to c.loop-i.i c.loop-i.invariant.0
      (omega arith) (omega arith),
  omega arith,
  simp length-set c.loop-i.invariant.2,
)

pub shape_of-dst : goal.shape_of-dst
shape_of-dst c =
    c.loop-i.invariant.2

pub returns : goal.returns
returns c =
    whole c.args.dst.now c.loop-i.dst c.args.src.now c.args.to
    c.loop-i.i c.loop-i.invariant.0 (omega arith)
