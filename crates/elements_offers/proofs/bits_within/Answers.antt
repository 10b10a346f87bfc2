-- `bits_within` meets its contract: lists of one length are within by their pairs, and others are not.
use Prim.Native.Nat.{ℕ, suc}
use mathlib.Core.Path.{◌≡◌, refl, sym, ap, ◌∙◌}
use mathlib.Core.List.{List, [], ◌∷◌}
use mathlib.Core.Bool.{false, ◌&&◌}
use native.Mathlib.Omega.{arith}
use lib.ListN.{length}
use lib.Dec.{eqb}
use lib.Bits.{bit_and}
use borrow.Author.Tests.{ne_eqb}
use Rattle.std.proofs.Common.{rules, tests}
use Rattle.std.proofs.lemmas.Iterator.{YieldsList-from_slice, YieldsList-from_zip}
use Rattle.std.proofs.lemmas.Iterator.Search.{all_from_yields_List}
use Rattle.std.specs.List.{list_all, zip}
use Rattle.rules.specs.Elements.{bits_within}
use Rattle.rules.proofs.Tests.{and-false}
use Rattle.elements_offers.proofs.bits_within.Goals as goal

by_pairs : (v w : List ℕ) → length v ≡ length w → list_all (λ (p : ℕ × ℕ). eqb (bit_and p.0 p.1) p.0) (zip v w) ≡ bits_within v w
unfolding bits_within
by_pairs [] [] e = refl
by_pairs [] (y ∷ w) e = absurd (omega arith)
by_pairs (x ∷ v) [] e = absurd (omega arith)
by_pairs (x ∷ v) (y ∷ w) e = ap (λ b. eqb (bit_and x y) x && b) (by_pairs v w (omega arith))

fewer : (v w : List ℕ) → (length v ≡ length w → ⊥) → bits_within v w ≡ false
unfolding bits_within
fewer [] [] h = absurd (h refl)
fewer [] (y ∷ w) h = refl
fewer (x ∷ v) [] h = refl
fewer (x ∷ v) (y ∷ w) h =
    ap (λ b. eqb (bit_and x y) x && b) (fewer v w (λ e. h (ap suc e))) ∙ and-false (eqb (bit_and x y) x)

pub returns-then-value-offer : goal.returns-then-value-offer
returns-then-value-offer c =
    let v = c.args.value.now in
    let w = c.args.offer.now in
    all_from_yields_List (λ (p : ℕ × ℕ). eqb (bit_and p.0 p.1) p.0) c.all.new.self _ c.all.result c.all.ensures.ran
    (YieldsList-from_zip (YieldsList-from_slice v cc) (YieldsList-from_slice w cc)) (λ x b q k. search (rules, tests))
    ∙ by_pairs v w c.if-value-offer.true

pub returns-else-value-offer : goal.returns-else-value-offer
returns-else-value-offer c =
    ne_eqb _ _ c.if-value-offer.false ∙ sym (fewer c.args.value.now c.args.offer.now c.if-value-offer.false)
