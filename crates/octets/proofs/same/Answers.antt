-- `same` meets its contract: lists of one length are the same by their pairs, and others are not.
use Prim.Native.Nat.{ℕ, suc}
use mathlib.Core.Path.{◌≡◌, refl, sym, ap, ◌∙◌}
use mathlib.Core.List.{List, [], ◌∷◌}
use mathlib.Core.Bool.{Bool, false, ◌&&◌}
use native.Mathlib.Omega.{arith}
use lib.ListN.{length}
use lib.Dec.{eqb}
use borrow.Author.Tests.{ne_eqb}
use Rattle.std.proofs.Common.{rules, tests}
use Rattle.std.proofs.lemmas.Iterator.{YieldsList-from_slice, YieldsList-from_zip}
use Rattle.std.proofs.lemmas.Iterator.Search.{all_from_yields_List}
use Rattle.std.specs.List.{list_all, zip}
use Rattle.rules.specs.Octets.{same_octets}
use Rattle.rules.proofs.Tests.{and-false}
use Rattle.octets.proofs.same.Goals as goal

by_pairs : (a b : List ℕ) → length a ≡ length b → list_all (λ (p : ℕ × ℕ). eqb p.0 p.1) (zip a b) ≡ same_octets a b
unfolding same_octets
by_pairs [] [] e = refl
by_pairs [] (y ∷ b) e = absurd (omega arith)
by_pairs (x ∷ a) [] e = absurd (omega arith)
by_pairs (x ∷ a) (y ∷ b) e = ap (λ (t : Bool). eqb x y && t) (by_pairs a b (omega arith))

other_length : (a b : List ℕ) → (length a ≡ length b → ⊥) → same_octets a b ≡ false
unfolding same_octets
other_length [] [] h = absurd (h refl)
other_length [] (y ∷ b) h = refl
other_length (x ∷ a) [] h = refl
other_length (x ∷ a) (y ∷ b) h =
    ap (λ (t : Bool). eqb x y && t) (other_length a b (λ e. h (ap suc e))) ∙ and-false (eqb x y)

pub returns-then-a-b : goal.returns-then-a-b
returns-then-a-b c =
    let a = c.args.a.now in
    let b = c.args.b.now in
    all_from_yields_List (λ (p : ℕ × ℕ). eqb p.0 p.1) c.all.new.self _ c.all.result c.all.ensures.ran
    (YieldsList-from_zip (YieldsList-from_slice a cc) (YieldsList-from_slice b cc)) (λ x d q k. search (rules, tests))
    ∙ by_pairs a b c.if-a-b.true

pub returns-else-a-b : goal.returns-else-a-b
returns-else-a-b c =
    ne_eqb _ _ c.if-a-b.false ∙ sym (other_length c.args.a.now c.args.b.now c.if-a-b.false)
