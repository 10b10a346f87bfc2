-- Octets and their number, which is an octet's where that octet stands first and zeros behind it.
use Prim.Native.Nat.{ℕ, ◌+◌, ◌*◌, ◌≤◌, ◌<◌}
use native.Mathlib.Numerals.{towards_suc}
use native.Mathlib.Omega.{arith}
use mathlib.Core.Path.{◌≡◌, refl, ap, ap₂}
use mathlib.Core.List.{List, [], ◌∷◌}
use lib.ListN.{length, get_or, replicate}
use lib.Dec.{eqb}
use borrow.Author.Tests.{eqb-true, eq-eqb}
use Rattle.rules.specs.Octets.{same_octets}
use Rattle.rules.proofs.Tests.{same_test, same_octets_lem, octets_same}
use Rattle.rules.proofs.SavedReads.{octets_from, octets_from_lem}
use Rattle.octets.specs.Patch.{part}
use Rattle.octets_alone.specs.Weights.{little_of}

-- the number that the machine loads
pub eight_weighed : (at : ℕ) (s : List ℕ) → at + 8 ≤ length s
    → get_or s at 0 + get_or s (at + 1) 0 * 256 + get_or s (at + 2) 0 * 65536 + get_or s (at + 3) 0 * 16777216
    + get_or s (at + 4) 0 * 4294967296 + get_or s (at + 5) 0 * 1099511627776 + get_or s (at + 6) 0 * 281474976710656
    + get_or s (at + 7) 0 * 72057594037927936
    ≡ little_of (part at 8 s)
unfolding little_of part octets_from
eight_weighed at s long =
    let octets : get_or s at 0 ∷ get_or s (at + 1) 0 ∷ get_or s (at + 2) 0 ∷ get_or s (at + 3) 0 ∷ get_or s (at + 4) 0
    ∷ get_or s (at + 5) 0 ∷ get_or s (at + 6) 0 ∷ get_or s (at + 7) 0 ∷ []
    ≡ part at 8 s = simp towards_suc (octets_from_lem 8 at s long) in
    rw (← octets) (omega arith)

all_zero : (l : List ℕ) → little_of l ≡ 0 → l ≡ replicate (length l) 0
unfolding little_of
all_zero [] e = refl
all_zero (x ∷ l) e =
    let first : x ≡ 0 = omega arith in
    let behind : little_of l ≡ 0 = omega arith in
    ap₂ ◌∷◌ first (all_zero l behind)

list_told : (l : List ℕ) (first : ℕ) → length l ≡ 8 → get_or l 0 0 < 256 → first < 256
    → eqb (little_of l) first ≡ same_octets l (first ∷ replicate 7 0)
unfolding little_of
list_told [] first long octet h = absurd (omega arith)
list_told (x ∷ l) first long octet h =
    let one = first ∷ replicate 7 0 in
    same_test (eqb (little_of (x ∷ l)) first) (same_octets (x ∷ l) one)
    (λ t.
    let e = eqb-true (little_of (x ∷ l)) first t in
    let same : x ≡ first = omega arith in
    let zeros : little_of l ≡ 0 = omega arith in
    let seven : length l ≡ 7 = omega arith in
    rw (same, all_zero l zeros, seven) (octets_same one))
    (λ t. let e = ap little_of (same_octets_lem (x ∷ l) one t) in eq-eqb (little_of (x ∷ l)) first (omega arith))

pub alone_told : (at : ℕ) (s : List ℕ) (first : ℕ) → at + 8 ≤ length s → get_or s at 0 < 256 → first < 256
    → eqb (little_of (part at 8 s)) first ≡ same_octets (part at 8 s) (first ∷ replicate 7 0)
unfolding octets_from part
alone_told at s first long octet h =
    rw (← octets_from_lem 8 at s long) (list_told (octets_from 8 at s) first refl octet h)
