-- `store` meets its contract: each write begins where the one before ends, so together they are one, of the categories so far.
use Rattle.std.proofs.Common.{◌≡◌, ◌+◌, ◌≤◌, ◌<◌, true, length, take, get_or, ℕ, zero, suc, List, [], ◌∷◌, ◌++◌}
use Rattle.std.proofs.Common.{refl, sym, ap, append_assoc, take_all, add-one, arith, length-append}
use mathlib.Core.Path.{◌∙◌}
use mathlib.Core.List.{append-nil}
use borrow.Author.Tests.{eq-eqb}
use lib.Dec.{eqb}
use Rattle.rules.specs.Octets.{member}
use Rattle.rules.specs.Elements.{offerable}
use Rattle.rules.proofs.Tests.{or_l, or_r}
use Rattle.elements.specs.declared.marks.Marks.{Marks}
use Rattle.elements_stored.specs.Stores.{picked, picked_all, marked_store}
use Rattle.elements_stored.proofs.Writes.{Wrote, wrote_none, wrote_further}
use Rattle.elements_stored.proofs.config.store.Goals as goal

-- each of the categories is one of them
member_at : (cs : List ℕ) (i : ℕ) → i < length cs → member (get_or cs i 0) cs ≡ true
unfolding member
member_at [] i h = absurd (omega arith)
member_at (c ∷ cs) zero h = or_l (eqb c c) (member c cs) (eq-eqb c c refl)
member_at (c ∷ cs) (suc i) h = or_r (eqb (get_or cs i 0) c) (member (get_or cs i 0) cs) (member_at cs i (omega arith))

module _ (new : List ℕ) (f : Marks) (old : List ℕ) (k : Marks) where
  -- of the first categories
  abbrev first : ℕ → List ℕ → List ℕ
  first i cs = picked_all (take i cs) new f old k

  abbrev one : ℕ → List ℕ → List ℕ
  one i cs = picked (get_or cs i 0) new f old k

  next : (cs : List ℕ) (i : ℕ) → i < length cs → first (suc i) cs ≡ first i cs ++ one i cs
  unfolding picked_all
  next [] i h = absurd (omega arith)
  next (c ∷ cs) zero h = append-nil (picked c new f old k)
  next (c ∷ cs) (suc i) h =
      ap (λ s. picked c new f old k ++ s) (next cs i (omega arith))
      ∙ sym (append_assoc (picked c new f old k) (first i cs) (one i cs))

  -- they take no more room than all
  room : (cs : List ℕ) (i : ℕ) → length (first i cs) ≤ length (picked_all cs new f old k)
  unfolding picked_all
  room cs zero = omega arith
  room [] (suc i) = omega arith
  room (c ∷ cs) (suc i) = omega (arith, room cs i, length-append {A = ℕ})

  room_next : (cs : List ℕ) (i : ℕ) → i < length cs
      → length (first i cs) + length (one i cs) ≤ length (picked_all cs new f old k)
  room_next cs i h = omega (arith, room cs (suc i), ap length (next cs i h), length-append (first i cs) (one i cs))

  wrote_next : (cs : List ℕ) (i to : ℕ) (a : List ℕ) {b b' : List ℕ} {r r' : ℕ} → i < length cs
      → to + length (picked_all cs new f old k) ≤ length a → Wrote to (first i cs) a b r → Wrote r (one i cs) b b' r'
      → Wrote to (first (i + 1) cs) a b' r'
  wrote_next cs i to a h fits w v =
      let n = room_next cs i h in
      rw (add-one, next cs i h) (wrote_further to (first i cs) (one i cs) a (omega arith) w v)

  wrote_all : (cs : List ℕ) (i to : ℕ) (a : List ℕ) {b : List ℕ} {r : ℕ} → length cs ≤ i → Wrote to (first i cs) a b r
      → Wrote to (picked_all cs new f old k) a b r
  wrote_all cs i to a h w = rw (take_all i cs h) at w

pub loop-category-init : goal.loop-category-init
unfolding picked_all
loop-category-init c =
    wrote_none c.args.to [] c.args.area.now refl

pub put_one-end-requires : goal.put_one-end-requires
unfolding marked_store offerable
put_one-end-requires c =
    let i = c.loop-category.category-index in
    let n = room_next c.args.new.list.now c.args.new.marks c.args.old.list.now c.args.old.marks offerable i (omega arith) in
    (member_at offerable i (omega arith), omega (arith, c.loop-category.invariant.1))

pub loop-category-preserved : goal.loop-category-preserved
unfolding marked_store offerable
loop-category-preserved c =
    wrote_next c.args.new.list.now c.args.new.marks c.args.old.list.now c.args.old.marks offerable
    c.loop-category.category-index c.args.to c.args.area.now (omega arith) c.requires c.loop-category.invariant
    (c.put_one-end.ensures.area, c.put_one-end.ensures.end)

pub overflow_sub-result : goal.overflow_sub-result
overflow_sub-result c =
    omega (arith, c.loop-category.invariant.1)

pub returns : goal.returns
unfolding marked_store offerable
returns c =
    let both = wrote_all c.args.new.list.now c.args.new.marks c.args.old.list.now c.args.old.marks offerable
    c.loop-category.category-index c.args.to c.args.area.now (omega arith) c.loop-category.invariant in
    record { area = both.0; length = omega (arith, both.1) }
