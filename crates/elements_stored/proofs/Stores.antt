-- What the marks of a list store is what its elements store. By induction on the octets: the mark of a category is where its last
-- element stands, and in a list with no fault no category comes twice, so that is the first, which is picked.
use Prim.Native.Nat.{ℕ, zero, suc, ◌+◌, ◌-◌, ◌≤◌, ◌<◌}
use native.Mathlib.Nat.{suc-ne-zero}
use native.Mathlib.Numerals.{add-one}
use native.Mathlib.Omega.{arith}
use mathlib.Core.Path.{◌≡◌, refl, sym, ap, ap₂, ◌∙◌, subst, subst₂}
use mathlib.Core.List.{List, [], ◌∷◌, ◌++◌, append-nil}
use mathlib.Core.Bool.{Bool, true, false}
use lib.ListN.{length, take, drop, get_or, length-drop}
use lib.Seq.{drop-drop, get_or-drop}
use lib.Dec.{leb, eqb}
use borrow.Author.Tests.{leb-true, eqb-true, eqb-false, eq-eqb, ne_eqb}
use Rattle.rules.specs.Octets.{member, some_of, same_octets}
use Rattle.std.specs.Prelude.{Ok, if◌then◌else◌}
use Rattle.rules.specs.Elements.{Item, whole, short, headed, items_past, items, category_of, is_strange, fixed, item_code, is_of}
use Rattle.rules.specs.Elements.{has, item_category, blamed, fault_past, fault_in, offerable, pick, picks, stored, restored}
use Rattle.rules.specs.Elements.{could_store, Category, transport, reporting, recovery, protection, compression}
use Rattle.rules.specs.Elements.{multiplexing, codec, delaying, strange}
use Rattle.rules.specs.declared.Rule.{Rule}
use Rattle.rules.specs.declared.Rule.TheVariants.{Setting, Reconfiguring}
use Rattle.rules.proofs.Tests.{Told?, passed, failed, told, clash, and_l, or_l, or_r}
use Rattle.rules.proofs.Storable.{clean_head, clean_tail, Asks, setting_asks, reconfiguring_asks}
use Rattle.elements.specs.Marks.{no_marks, mark_of, marked, is_whole, marks_past, marks_from}
use Rattle.elements.specs.Walks.{check_of}
use Rattle.elements.specs.declared.marks.Marks.{Marks}
use Rattle.elements.proofs.Passing.{mark_passed}
use Rattle.elements.proofs.Judging.{told_marks, check_clean}
use Rattle.elements_stored.specs.Stores.{marked_pick, either_pick, picked_all, marked_store, PickFits, MarksFit}

-- ---- No category comes twice

abbrev Once : List Item → Type 0
Once [] = Unit {0}
Once (short d ∷ is) = Once is
Once (whole d v ∷ is) = (has d is ≡ false) × Once is

-- an element with no fault is the first of its category
new_one : (rule : Rule) (caps : List Item) (seen : List ℕ) (c : ℕ) (v : List ℕ) → item_code rule caps seen (whole c v) ≡ 0
    → member c seen ≡ false
unfolding item_code
new_one rule caps seen c v = go (is_strange (category_of c)) (fixed rule (category_of c)) (member c seen) _
  where
    go : (a b m : Bool) (n : ℕ) → (if a then 0x17 else if b then 0x1A else if m then 0x18 else n) ≡ 0 → m ≡ false
    go true b m n e = absurd (suc-ne-zero 0x16 e)
    go false true m n e = absurd (suc-ne-zero 0x19 e)
    go false false true n e = absurd (suc-ne-zero 0x17 e)
    go false false false n e = refl

module _ (rule : Rule) (asks : Asks rule) (caps : List Item) where
  -- what was seen before comes no more
  seen_gone : (seen : List ℕ) (is : List Item) (c : ℕ) → (fault_past rule caps seen is).code ≡ 0 → member c seen ≡ true
      → has c is ≡ false
  unfolding fault_past blamed item_category member has some_of is_of
  seen_gone seen [] c e m = refl
  seen_gone seen (short d ∷ is) c e m = seen_gone (d ∷ seen) is c (clean_tail _ _ e) (or_r (eqb c d) (member c seen) m)
  seen_gone seen (whole d v ∷ is) c e m =
      let new = new_one rule caps seen d v (sym (asks caps seen (whole d v)) ∙ clean_head _ _ e) in
      let other : eqb c d ≡ false = ne_eqb c d (λ p. clash m (rw p new)) in
      rw other (seen_gone (d ∷ seen) is c (clean_tail _ _ e) (or_r (eqb c d) (member c seen) m))

  clean_once : (seen : List ℕ) (is : List Item) → (fault_past rule caps seen is).code ≡ 0 → Once is
  unfolding fault_past item_category member
  clean_once seen [] e = tt
  clean_once seen (short d ∷ is) e = clean_once (d ∷ seen) is (clean_tail _ _ e)
  clean_once seen (whole d v ∷ is) e =
      let rest = clean_tail _ _ e in
      (seen_gone (d ∷ seen) is d rest (or_l (eqb d d) (member d seen) (eq-eqb d d refl)), clean_once (d ∷ seen) is rest)

  list_once : (is : List Item) → (fault_in rule caps is).code ≡ 0 → Once is
  unfolding fault_in
  list_once is e = clean_once [] is e

-- ---- A place of a list

next_place : (l : List ℕ) (at : ℕ) {x : ℕ} {xs : List ℕ} → drop at l ≡ x ∷ xs → drop (suc at) l ≡ xs
next_place l at e = ap (λ (n : ℕ). drop n l) (sym (add-one at)) ∙ sym (drop-drop 1 at l) ∙ ap (drop 1) e

record Two (l : List ℕ) (at n : ℕ) (xs : List ℕ) : Type 0 where
  second : get_or l (at + 2 - 1) 0 ≡ n
  size : at + 2 + length xs ≡ length l
  rest : drop (at + 2) l ≡ xs

two : (l : List ℕ) (at : ℕ) {x n : ℕ} {xs : List ℕ} → drop at l ≡ x ∷ n ∷ xs → Two l at n xs
two l at {x} {n} {xs} e =
    let one_less : at + 2 - 1 ≡ at + 1 = omega arith in
    record {
      second = ap (λ (k : ℕ). get_or l k 0) one_less ∙ sym (get_or-drop at l 1 0) ∙ ap (λ (d : List ℕ). get_or d 1 0) e;
      size = omega (arith, length-drop at l, ap length e);
      rest = sym (drop-drop 2 at l) ∙ ap (drop 2) e;
    }

-- ---- The first of a category, in two lists

pick_first : (c : ℕ) (is js : List Item) → has c is ≡ true → pick c (is ++ js) ≡ pick c is
unfolding pick has some_of is_of
pick_first c [] js h = clash refl (sym h)
pick_first c (short d ∷ is) js h = pick_first c is js h
pick_first c (whole d v ∷ is) js h = go (told (eqb c d)) (pick_first c is js)
  where
    go : Told? (eqb c d) → (has c is ≡ true → pick c (is ++ js) ≡ pick c is)
        → pick c (whole d v ∷ (is ++ js)) ≡ pick c (whole d v ∷ is)
    go (passed e) rest = rw e
    go (failed e) rest = rw e (rest (rw e at h))

pick_second : (c : ℕ) (is js : List Item) → has c is ≡ false → pick c (is ++ js) ≡ pick c js
unfolding pick has some_of is_of
pick_second c [] js h = refl
pick_second c (short d ∷ is) js h = pick_second c is js h
pick_second c (whole d v ∷ is) js h = go (told (eqb c d)) (pick_second c is js)
  where
    go : Told? (eqb c d) → (has c is ≡ false → pick c (is ++ js) ≡ pick c js)
        → pick c (whole d v ∷ (is ++ js)) ≡ pick c js
    go (passed e) rest = clash refl (rw e at h)
    go (failed e) rest = rw e (rest (rw e at h))

pick_none : (c : ℕ) (is : List Item) → has c is ≡ false → pick c is ≡ []
unfolding pick
pick_none c is h = ap (pick c) (sym (append-nil is)) ∙ pick_second c is [] h

none_picked : (c : ℕ) (l : List ℕ) → marked_pick c l 0 ≡ []
unfolding marked_pick
none_picked c l = refl

-- ---- The mark of a category

no_mark : (k : Category) → mark_of k no_marks ≡ 0
unfolding mark_of no_marks
no_mark transport = refl
no_mark reporting = refl
no_mark recovery = refl
no_mark protection = refl
no_mark compression = refl
no_mark multiplexing = refl
no_mark codec = refl
no_mark delaying = refl
no_mark strange = refl

module _ (c : ℕ) (known : is_strange (category_of c) ≡ false) where
  abbrev mark : Marks → ℕ
  mark m = mark_of (category_of c) m

  this_one : (d first : ℕ) (m : Marks) → eqb c d ≡ true → mark (marked d first m) ≡ first
  this_one d first m e = mark_passed c d first m known ∙ rw (eq-eqb d c (sym (eqb-true c d e)))

  other_one : (d first : ℕ) (m : Marks) → eqb c d ≡ false → mark (marked d first m) ≡ mark m
  other_one d first m e = mark_passed c d first m known ∙ rw (ne_eqb d c (λ p. eqb-false c d e (sym p)))

  -- a mark fits its list
  fits_marked : (l : List ℕ) (at : ℕ) {n : ℕ} {xs : List ℕ} (x : ℕ) (m : Marks) → Two l at n xs → n ≤ length xs
      → PickFits l (mark m) → PickFits l (mark (marked x (at + 2) m))
  fits_marked l at x m t h fits = go (told (eqb c x))
    where
      go : Told? (eqb c x) → PickFits l (mark (marked x (at + 2) m))
      go (passed e) = rw (this_one x (at + 2) m e) (λ _. omega (arith, t.second, t.size))
      go (failed e) = rw (other_one x (at + 2) m e) fits

  fits_past : (l xs : List ℕ) (k at : ℕ) (m : Marks) → drop at l ≡ xs → PickFits l (mark m)
      → PickFits l (mark (marks_past xs k at m))
  unfolding marks_past is_whole
  fits_past l [] k at m e fits = fits
  fits_past l (x ∷ xs) (suc k) at m e fits = fits_past l xs k (suc at) m (next_place l at e) fits
  fits_past l (x ∷ []) zero at m e fits = fits
  fits_past l (x ∷ n ∷ xs) zero at m e fits =
      go (told (leb n (length xs)))
      (fits_past l xs n (suc (suc at)) (marked x (at + 2) m) (next_place l (suc at) (next_place l at e)))
    where
      go : Told? (leb n (length xs))
          → (PickFits l (mark (marked x (at + 2) m)) → PickFits l (mark (marks_past xs n (suc (suc at)) (marked x (at + 2) m))))
          → PickFits l (mark (marks_past (x ∷ n ∷ xs) zero at m))
      go (passed t) rest = rw t (rest (fits_marked l at x m (two l at e) (leb-true n (length xs) t) fits))
      go (failed t) rest = rw t fits

  -- where no element of the category comes, the mark stays
  stays : (xs : List ℕ) (k at : ℕ) (m : Marks) → has c (items_past xs k) ≡ false → mark (marks_past xs k at m) ≡ mark m
  unfolding marks_past is_whole items_past headed has some_of is_of
  stays [] k at m h = refl
  stays (x ∷ xs) (suc k) at m h = stays xs k (suc at) m h
  stays (x ∷ []) zero at m h = refl
  stays (x ∷ n ∷ xs) zero at m h =
      go (told (leb n (length xs))) (told (eqb c x)) h (stays xs n (suc (suc at)) (marked x (at + 2) m))
    where
      go : Told? (leb n (length xs)) → Told? (eqb c x) → has c (items_past (x ∷ n ∷ xs) zero) ≡ false
          → (has c (items_past xs n) ≡ false
          → mark (marks_past xs n (suc (suc at)) (marked x (at + 2) m)) ≡ mark (marked x (at + 2) m))
          → mark (marks_past (x ∷ n ∷ xs) zero at m) ≡ mark m
      go (passed t) (passed e) h rest = clash refl (rw (t, e) at h)
      go (passed t) (failed e) h rest = rw t (rest (rw (t, e) at h) ∙ other_one x (at + 2) m e)
      go (failed t) _ h rest = rw t

  -- where one comes, and no second, it is marked and what is marked is what is picked
  abbrev Picked : List ℕ → ℕ → List Item → Type 0
  Picked l place is = (eqb place 0 ≡ false) × (marked_pick c l place ≡ pick c is)

  picked_here : (l : List ℕ) (at : ℕ) {n : ℕ} {xs : List ℕ} (x place : ℕ) (is : List Item) → Two l at n xs → eqb c x ≡ true
      → place ≡ at + 2 → Picked l place (whole x (take n xs) ∷ is)
  unfolding marked_pick pick
  picked_here l at x place is t e p =
      let there : eqb (at + 2) 0 ≡ false = ne_eqb (at + 2) 0 (omega arith) in
      rw p (there, rw (there, e, t.second, t.rest))

  picked_past : (l xs : List ℕ) (k at : ℕ) (m : Marks) → drop at l ≡ xs → Once (items_past xs k) → has c (items_past xs k) ≡ true
      → Picked l (mark (marks_past xs k at m)) (items_past xs k)
  unfolding marks_past is_whole items_past headed has some_of is_of pick
  picked_past l [] k at m d once h = clash refl (sym h)
  picked_past l (x ∷ xs) (suc k) at m d once h = picked_past l xs k (suc at) m (next_place l at d) once h
  picked_past l (x ∷ []) zero at m d once h = clash refl (sym h)
  picked_past l (x ∷ n ∷ xs) zero at m d once h =
      go (told (leb n (length xs))) (told (eqb c x)) once h
      (picked_past l xs n (suc (suc at)) (marked x (at + 2) m) (next_place l (suc at) (next_place l at d)))
    where
      go : Told? (leb n (length xs)) → Told? (eqb c x) → Once (items_past (x ∷ n ∷ xs) zero)
          → has c (items_past (x ∷ n ∷ xs) zero) ≡ true
          → (Once (items_past xs n) → has c (items_past xs n) ≡ true
          → Picked l (mark (marks_past xs n (suc (suc at)) (marked x (at + 2) m))) (items_past xs n))
          → Picked l (mark (marks_past (x ∷ n ∷ xs) zero at m)) (items_past (x ∷ n ∷ xs) zero)
      go (passed t) (passed e) once h rest =
          let o = rw t at once in
          let gone : has c (items_past xs n) ≡ false = rw (eqb-true c x e) o.0 in
          rw t
          (picked_here l at x _ (items_past xs n) (two l at d) e
          (stays xs n (suc (suc at)) (marked x (at + 2) m) gone ∙ this_one x (at + 2) m e))
      go (passed t) (failed e) once h rest =
          let o = rw t at once in
          rw (t, e) (rest o.1 (rw (t, e) at h))
      go (failed t) _ once h rest = clash refl (sym (rw t at h))

  mark_fits : (l : List ℕ) (at : ℕ) → PickFits l (mark (marks_from l at no_marks))
  unfolding marks_from
  mark_fits l at = fits_past l (drop at l) 0 at no_marks refl (rw (no_mark (category_of c)) (λ (p : 0 < 0). absurd (omega arith)))

  none_marked : (l : List ℕ) (at : ℕ) → has c (items (drop at l)) ≡ false → mark (marks_from l at no_marks) ≡ 0
  unfolding marks_from
  none_marked l at h = stays (drop at l) 0 at no_marks h ∙ no_mark (category_of c)

  one_marked : (l : List ℕ) (at : ℕ) → Once (items (drop at l)) → has c (items (drop at l)) ≡ true
      → Picked l (mark (marks_from l at no_marks)) (items (drop at l))
  unfolding marks_from
  one_marked l at once h = picked_past l (drop at l) 0 at no_marks refl once h

  -- the new one or the old one is the first of the new ones before the old ones
  either_picked : (new : List ℕ) (at : ℕ) (old : List ℕ) (left : ℕ) (js : List Item) → Once (items (drop at new))
      → marked_pick c old left ≡ pick c js
      → either_pick c new (mark (marks_from new at no_marks)) old left ≡ pick c (items (drop at new) ++ js)
  unfolding either_pick
  either_picked new at old left js once e = go (told (has c (items (drop at new))))
    where
      go : Told? (has c (items (drop at new)))
          → either_pick c new (mark (marks_from new at no_marks)) old left ≡ pick c (items (drop at new) ++ js)
      go (passed h) =
          let (there, same) = one_marked new at once h in
          rw there (same ∙ sym (pick_first c (items (drop at new)) js h))
      go (failed h) = rw (none_marked new at h) (e ∙ sym (pick_second c (items (drop at new)) js h))

  marked_picked : (l : List ℕ) (at : ℕ) → Once (items (drop at l))
      → marked_pick c l (mark (marks_from l at no_marks)) ≡ pick c (items (drop at l))
  marked_picked l at once = go (told (has c (items (drop at l))))
    where
      go : Told? (has c (items (drop at l))) → marked_pick c l (mark (marks_from l at no_marks)) ≡ pick c (items (drop at l))
      go (passed h) = (one_marked l at once h).1
      go (failed h) = ap (marked_pick c l) (none_marked l at h) ∙ none_picked c l ∙ sym (pick_none c (items (drop at l)) h)

-- ---- The marks of a list fit it

pub marks_fit : (l : List ℕ) (at : ℕ) → MarksFit l (marks_from l at no_marks)
unfolding category_of mark_of is_strange
marks_fit l at =
    record {
      transport = mark_fits 1 refl l at;
      reporting = mark_fits 2 refl l at;
      protection = mark_fits 4 refl l at;
      codec = mark_fits 7 refl l at;
      delaying = mark_fits 8 refl l at;
    }

pub none_fit : (l : List ℕ) → MarksFit l no_marks
unfolding no_marks
none_fit l =
    let none : PickFits l 0 = λ (p : 0 < 0). absurd (omega arith) in
    record { transport = none; reporting = none; protection = none; codec = none; delaying = none }

-- ---- What is stored by the marks

abbrev Known : List ℕ → Type 0
Known [] = Unit {0}
Known (c ∷ cs) = (is_strange (category_of c) ≡ false) × Known cs

module _ (new : List ℕ) (at : ℕ) (old : List ℕ) (k : Marks) (js : List Item) (once : Once (items (drop at new)))
    (left : (c : ℕ) → is_strange (category_of c) ≡ false → marked_pick c old (mark_of (category_of c) k) ≡ pick c js) where
  all_picked : (cs : List ℕ) → Known cs
      → picked_all cs new (marks_from new at no_marks) old k ≡ picks cs (items (drop at new) ++ js)
  unfolding picked_all picks
  all_picked [] known = refl
  all_picked (c ∷ cs) known =
      ap₂ ◌++◌ (either_picked c known.0 new at old (mark_of (category_of c) k) js once (left c known.0)) (all_picked cs known.1)

  store_picked : marked_store new (marks_from new at no_marks) old k ≡ stored (items (drop at new) ++ js)
  unfolding marked_store stored offerable is_strange category_of
  store_picked = all_picked offerable (refl, (refl, (refl, (refl, (refl, tt)))))

-- nothing is kept of the old list
store_new : (rule : Rule) → Asks rule → (caps : List Item) (new : List ℕ) (at : ℕ) (old : List ℕ)
    → (fault_in rule caps (items (drop at new))).code ≡ 0
    → marked_store new (marks_from new at no_marks) old no_marks ≡ stored (items (drop at new))
unfolding pick
store_new rule asks caps new at old clean =
    store_picked new at old no_marks [] (list_once rule asks caps (items (drop at new)) clean)
    (λ c _. ap (marked_pick c old) (no_mark (category_of c)) ∙ none_picked c old)
    ∙ ap stored (append-nil (items (drop at new)))

-- what the new list lacks is kept of the old one, which has no fault either
store_again : (rule : Rule) → Asks rule → (caps : List Item) (new : List ℕ) (at : ℕ)
    → (rule' : Rule) → Asks rule' → (caps' : List Item) (old : List ℕ)
    → (fault_in rule caps (items (drop at new))).code ≡ 0 → (fault_in rule' caps' (items old)).code ≡ 0
    → marked_store new (marks_from new at no_marks) old (marks_from old 0 no_marks) ≡ restored (items (drop at new)) (items old)
unfolding restored
store_again rule asks caps new at rule' asks' caps' old clean clean' =
    let once = list_once rule' asks' caps' (items old) clean' in
    store_picked new at old (marks_from old 0 no_marks) (items old) (list_once rule asks caps (items (drop at new)) clean)
    (λ c known. marked_picked c known old 0 once)

-- ---- By the checks that the commands make

-- the check of a stored configuration gives its marks
pub could_checked : (caps : List Item) (l : List ℕ) → could_store caps l ≡ true
    → check_of Setting caps l 0 ≡ Ok (marks_from l 0 no_marks)
unfolding check_of could_store
could_checked caps l e =
    sym (told_marks (fault_in Setting caps (items l)) (marks_from l 0 no_marks)
    (eqb-true _ 0 (and_l (eqb (fault_in Setting caps (items l)).code 0) (same_octets (stored (items l)) l) e)))

-- what the code stores from, and that it stores a configuration
pub record Stores (new : List ℕ) (m : Marks) (old : List ℕ) (k : Marks) (config : List ℕ) : Type 0 where
  pub fresh : MarksFit new m
  pub left : MarksFit old k
  pub same : marked_store new m old k ≡ config

-- Set Configuration with no fault
pub set_stores : (caps : List Item) (new : List ℕ) (at : ℕ) (old : List ℕ) {m : Marks} → check_of Setting caps new at ≡ Ok m
    → Stores new m old no_marks (stored (items (drop at new)))
set_stores caps new at old {m} e =
    let (clean, same) = check_clean Setting caps new at m (sym e) in
    subst (λ (m : Marks). Stores new m old no_marks (stored (items (drop at new)))) (sym same)
    (record {
      fresh = marks_fit new at;
      left = none_fit old;
      same = store_new Setting setting_asks caps new at old clean;
    })

-- Reconfigure with no fault, and the check of what is stored
pub again_stores : (caps : List Item) (new : List ℕ) (at : ℕ) (old : List ℕ) {m k : Marks}
    → check_of Reconfiguring caps new at ≡ Ok m → check_of Setting caps old 0 ≡ Ok k
    → Stores new m old k (restored (items (drop at new)) (items old))
again_stores caps new at old {m} {k} e f =
    let (clean, same) = check_clean Reconfiguring caps new at m (sym e) in
    let (clean', same') = check_clean Setting caps old 0 k (sym f) in
    subst₂ (λ (m k : Marks). Stores new m old k (restored (items (drop at new)) (items old))) (sym same) (sym same')
    (record {
      fresh = marks_fit new at;
      left = marks_fit old 0;
      same = store_again Reconfiguring reconfiguring_asks caps new at Setting setting_asks caps old clean clean';
    })
