-- Writes one after the other, as the code tells each: what the area holds then and where the write ends.
use Prim.Native.Nat.{ℕ, ◌+◌, ◌≤◌}
use mathlib.Core.Path.{◌≡◌, sym, ap₂, ◌∙◌}
use mathlib.Core.List.{List, [], ◌++◌}
use native.Mathlib.Nat.{add-zero}
use native.Mathlib.Omega.{arith}
use lib.ListN.{length, length-append}
use Rattle.octets.specs.Patch.{patch}
use Rattle.octets.proofs.Patches.{patch_none, patch_append}

-- what a write of s at a place of the area a leaves, and where it ends, as the code tells both
abbrev pub Wrote : ℕ → List ℕ → List ℕ → List ℕ → ℕ → Type 0
Wrote to s a b r = (b ≡ patch to s a) × (r ≡ to + length s)

pub wrote_none : (to : ℕ) (s a : List ℕ) → s ≡ [] → Wrote to s a a to
wrote_none to s a e = rw e (patch_none to a, sym (add-zero to))

-- one write behind another
pub wrote_further : (to : ℕ) (s t a : List ℕ) {b b' : List ℕ} {r r' : ℕ} → to + length s + length t ≤ length a → Wrote to s a b r
    → Wrote r t b b' r' → Wrote to (s ++ t) a b' r'
wrote_further to s t a h p q = (
  q.0 ∙ ap₂ (λ (n : ℕ) (x : List ℕ). patch n t x) p.1 p.0 ∙ patch_append to s t a h,
  simp length-append (omega (arith, p.1, q.1)),
)
