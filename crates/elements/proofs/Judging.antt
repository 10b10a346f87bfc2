-- The checks look at the categories seen only for whether a known one is among them, so marks serve in their place, by induction
-- on the items; and with them the walk is told by what stands at a place.
use Prim.Native.Nat.{ℕ, ◌+◌}
use mathlib.Core.Path.{◌≡◌, refl, sym, ap, ap₂, ◌∙◌}
use mathlib.Core.List.{List, [], ◌∷◌}
use mathlib.Core.Bool.{Bool, true, false, not, ◌||◌}
use native.Mathlib.Omega.{arith}
use lib.ListN.{drop}
use Rattle.std.specs.Prelude.{⊤, Ok, Err, if◌then◌else◌}
use lib.Dec.{eqb}
use borrow.Author.Tests.{eq-eqb, ne_eqb, eqb-true, eqb-false}
use Rattle.rules.specs.Octets.{member}
use Rattle.rules.specs.Elements.{Item, whole, short, items, category_of, is_strange, item_code, judge, item_category, blamed}
use Rattle.rules.specs.Elements.{missing, lacking, no_fault, fault_or, fault_past, fault_in}
use Rattle.rules.specs.declared.Rule.{Rule}
use Rattle.rules.specs.declared.Rule.TheVariants as kind
use Rattle.rules.specs.declared.Fault.{Fault}
use Rattle.rules.proofs.Tests.{Told?, passed, failed, told}
use Rattle.rules.proofs.Storable.{Asks, setting_asks, reconfiguring_asks}
use Rattle.octets.specs.Patch.{part}
use Rattle.elements_reader.specs.Standing.{element_at, items_by}
use Rattle.elements_reader.specs.declared.Element.{Element}
use Rattle.elements_reader.specs.declared.Element.TheVariants.{End, Short, Whole}
use Rattle.elements_reader.proofs.Stands.{stands_whole, items_by_lem}
use Rattle.elements.specs.Marks.{no_marks, mark_of, marked, marks_from, seen_as, seen_in}
use Rattle.elements.specs.Walks.{judged_as, walked_as, walk_of, check_of, rule_of}
use Rattle.elements.specs.declared.marks.Marks.{Marks}
use Rattle.elements.specs.declared.judges.Command.{Command}
use Rattle.elements.specs.declared.judges.Command.TheVariants.{Setting, Reconfiguring}
use Rattle.elements.proofs.Passing.{is_marked, marked_passed, seen_marked, marks_by, marks_by_lem}

-- ---- What the checks see

-- the same known categories among those seen
abbrev Alike : List ℕ → List ℕ → Type 0
Alike s t = (c : ℕ) → is_strange (category_of c) ≡ false → member c s ≡ member c t

none_alike : Alike [] (seen_in no_marks)
unfolding seen_in seen_as no_marks member
none_alike c e = refl

passed_alike : (c first : ℕ) (m : Marks) → is_strange (category_of c) ≡ false → (first ≡ 0 → ⊥)
    → Alike (c ∷ seen_in m) (seen_in (marked c first m))
unfolding member
passed_alike c first m e f d k =
    ap (λ b. eqb d c || b) (seen_marked d m k) ∙ sym (seen_marked d (marked c first m) k ∙ marked_passed d c first m k f)

code_alike : (rule : Rule) (caps : List Item) (s t : List ℕ) → Alike s t → (i : Item)
    → item_code rule caps s i ≡ item_code rule caps t i
unfolding item_code
code_alike rule caps s t a (short c) = refl
code_alike rule caps s t a (whole c v) = go (told (is_strange (category_of c)))
  where
    go : Told? (is_strange (category_of c)) → item_code rule caps s (whole c v) ≡ item_code rule caps t (whole c v)
    go (passed e) = rw e
    go (failed e) = rw (a c e)

-- a command's elements are judged by `item_code`
command_asks : (command : Command) → Asks (rule_of command)
command_asks Reconfiguring = reconfiguring_asks
command_asks Setting = setting_asks

lacking_alike : (command : Command) (s t : List ℕ) → Alike s t → lacking (rule_of command) s ≡ lacking (rule_of command) t
unfolding lacking missing is_strange category_of
lacking_alike Reconfiguring s t a = refl
lacking_alike Setting s t a = rw (a 1 refl, a 7 refl)

-- what a Set Configuration with these marks lacks
pub setting_lacks : (m : Marks)
    → lacking kind.Setting (seen_in m)
    ≡ if eqb m.transport 0 then record { category = 1; code = 0x29 }
    else if eqb m.codec 0 then record { category = 7; code = 0x29 }
    else record { category = 0; code = 0 }
unfolding lacking missing no_fault is_marked is_strange category_of mark_of
setting_lacks m = rw (seen_marked 1 m refl, seen_marked 7 m refl) (go (eqb m.transport 0) (eqb m.codec 0) _ _ _)
  where
    go : (a b : Bool) (f g h : Fault)
        → (if not (not a) then f else if not (not b) then g else h) ≡ (if a then f else if b then g else h)
    go true b f g h = refl
    go false true f g h = refl
    go false false f g h = refl

pub nothing_lacks : (m : Marks) → lacking kind.Reconfiguring (seen_in m) ≡ record { category = 0; code = 0 }
unfolding lacking no_fault
nothing_lacks m = refl

pub ruleset lacks = (setting_lacks, nothing_lacks)

fault_alike : (command : Command) (caps : List Item) (s t : List ℕ) → Alike s t → (is : List Item)
    → fault_past (rule_of command) caps s is ≡ fault_past (rule_of command) caps t is
unfolding fault_past member
fault_alike command caps s t a [] = lacking_alike command s t a
fault_alike command caps s t a (i ∷ is) =
    ap₂ (λ (n : ℕ) (f : Fault). fault_or (blamed i n) f)
    (command_asks command caps s i ∙ code_alike (rule_of command) caps s t a i ∙ sym (command_asks command caps t i))
    (fault_alike command caps (item_category i ∷ s) (item_category i ∷ t)
    (λ c e. ap (λ b. eqb c (item_category i) || b) (a c e)) is)

-- what passes is of a known category
code_known : (rule : Rule) (caps : List Item) (s : List ℕ) (c : ℕ) (v : List ℕ) → item_code rule caps s (whole c v) ≡ 0
    → is_strange (category_of c) ≡ false
unfolding item_code
code_known rule caps s c v e = go (told (is_strange (category_of c)))
  where
    go : Told? (is_strange (category_of c)) → is_strange (category_of c) ≡ false
    go (passed t) = let z : ◌≡◌ {A = ℕ} 0x17 0 = rw t at e in absurd (omega arith)
    go (failed t) = t

-- ---- The walk, by what stands at a place

walk_by : (rule : Rule) (caps : List Item) (l : List ℕ) (at : ℕ) (m : Marks) {h : Element} → h ≡ element_at l at
    → walked_as (fault_past rule caps (seen_in m) (items_by h l)) (marks_by h l m) ≡ walk_of rule caps l at m
unfolding walk_of
walk_by rule caps l at m e =
    ap₂ walked_as
    (ap (fault_past rule caps (seen_in m)) (ap (λ h. items_by h l) e ∙ sym (items_by_lem l at)))
    (ap (λ h. marks_by h l m) e ∙ sym (marks_by_lem l at m))

pub walk_end : (rule : Rule) (caps : List Item) (l : List ℕ) (at : ℕ) (m : Marks) → End ≡ element_at l at
    → walked_as (lacking rule (seen_in m)) m ≡ walk_of rule caps l at m
unfolding items_by marks_by fault_past
walk_end rule caps l at m e = walk_by rule caps l at m e

pub walk_short : (command : Command) (caps : List Item) (l : List ℕ) (at : ℕ) (m : Marks) (c : ℕ) → Short c ≡ element_at l at
    → Err (record { category = c; code = 0x11 }) ≡ walk_of (rule_of command) caps l at m
unfolding items_by marks_by fault_past walked_as judge item_code fault_or blamed item_category
walk_short Reconfiguring caps l at m c e = walk_by kind.Reconfiguring caps l at m e
walk_short Setting caps l at m c e = walk_by kind.Setting caps l at m e

-- a failure is told, or the marks; and the first of two failures counts
pub told_fault : (f : Fault) (m : Marks) → (f.code ≡ 0 → ⊥) → Err f ≡ walked_as f m
unfolding walked_as
told_fault f m h = rw (ne_eqb f.code 0 h)

pub told_marks : (f : Fault) (m : Marks) → f.code ≡ 0 → Ok m ≡ walked_as f m
unfolding walked_as
told_marks f m z = rw (eq-eqb f.code 0 z)

first_fault : (f later : Fault) → (f.code ≡ 0 → ⊥) → f ≡ fault_or f later
unfolding fault_or
first_fault f later h = rw (ne_eqb f.code 0 h)

-- what the judge of an element told
judged_fault : (n : ℕ) {code : ℕ} → Err code ≡ judged_as n → (n ≡ 0 → ⊥) × (code ≡ n)
judged_fault n {code} e = go (told (eqb n 0))
  where
    go : Told? (eqb n 0) → (n ≡ 0 → ⊥) × (code ≡ n)
    go (passed t) = let other : Err code ≡ Ok tt = rw t at e in (cc, cc)
    go (failed t) = let same : Err code ≡ Err n = rw t at e in (eqb-false n 0 t, cc)

judged_right : (n : ℕ) {right : ⊤} → Ok right ≡ judged_as n → n ≡ 0
judged_right n {right} e = go (told (eqb n 0))
  where
    go : Told? (eqb n 0) → n ≡ 0
    go (passed t) = eqb-true n 0 t
    go (failed t) = let other : Ok right ≡ Err n = rw t at e in cc

-- a whole element
module _ (command : Command) (caps : List Item) (l : List ℕ) (at : ℕ) (m : Marks) (c n first : ℕ)
    (e : Whole c n first ≡ element_at l at) (v : List ℕ) (p : v ≡ part first n l) where
  -- the code of its first failure
  abbrev code_there : ℕ
  code_there = item_code (rule_of command) caps (seen_in m) (whole c v)

  walk_whole : walked_as
      (fault_or (record { category = c; code = code_there })
      (fault_past (rule_of command) caps (c ∷ seen_in m) (items (drop (first + n) l))))
      (marks_from l (first + n) (marked c first m))
      ≡ walk_of (rule_of command) caps l at m
  unfolding items_by marks_by fault_past blamed item_category part
  walk_whole = (rw (sym (command_asks command caps (seen_in m) (whole c v)), p)) ∙ walk_by (rule_of command) caps l at m e

  pub walk_fault : {code : ℕ} → Err code ≡ judged_as code_there
      → Err (record { category = c; code = code }) ≡ walk_of (rule_of command) caps l at m
  walk_fault {code} j =
      let (f, same) = judged_fault code_there j in
      rw same
      (told_fault (record { category = c; code = code_there }) (marks_from l (first + n) (marked c first m)) f
      ∙ ap (λ x. walked_as x (marks_from l (first + n) (marked c first m))) (first_fault _ _ f)
      ∙ walk_whole)

  pub walk_on : {right : ⊤} → Ok right ≡ judged_as code_there
      → walk_of (rule_of command) caps l (first + n) (marked c first m) ≡ walk_of (rule_of command) caps l at m
  unfolding walk_of fault_or
  walk_on j =
      let z = judged_right code_there j in
      let rest = items (drop (first + n) l) in
      let beyond : first ≡ 0 → ⊥ = λ q. omega (arith, (stands_whole l at c n first e).2) in
      let known = code_known (rule_of command) caps (seen_in m) c v z in
      ap (λ x. walked_as x (marks_from l (first + n) (marked c first m)))
      (rw z
      (sym (fault_alike command caps (c ∷ seen_in m) (seen_in (marked c first m)) (passed_alike c first m known beyond) rest)))
      ∙ walk_whole

-- what the walk goes by, at each turn
pub ruleset turns = (stands_whole, walk_end, walk_short, walk_fault, walk_on)

-- ---- A walk from its beginning, with nothing seen

pub walk_begun : (command : Command) (caps : List Item) (l : List ℕ) (at : ℕ)
    → walk_of (rule_of command) caps l at no_marks ≡ check_of (rule_of command) caps l at
unfolding walk_of check_of fault_in
walk_begun command caps l at =
    ap (λ f. walked_as f (marks_from l at no_marks))
    (sym (fault_alike command caps [] (seen_in no_marks) none_alike (items (drop at l))))

-- what was told tells whether there is a failure, and the marks
told_clean : (f : Fault) (m n : Marks) → Ok n ≡ walked_as f m → (f.code ≡ 0) × (n ≡ m)
unfolding walked_as
told_clean f m n e = go (told (eqb f.code 0))
  where
    go : Told? (eqb f.code 0) → (f.code ≡ 0) × (n ≡ m)
    go (passed t) = let same : Ok n ≡ Ok m = rw t at e in (eqb-true f.code 0 t, cc)
    go (failed t) = let other : Ok n ≡ Err f = rw t at e in (cc, cc)

told_failed : (f g : Fault) (m : Marks) → Err g ≡ walked_as f m → (f.code ≡ 0 → ⊥) × (g ≡ f)
unfolding walked_as
told_failed f g m e = go (told (eqb f.code 0))
  where
    go : Told? (eqb f.code 0) → (f.code ≡ 0 → ⊥) × (g ≡ f)
    go (passed t) =
        let other : Err g ≡ Ok m = rw t at e in
        let z : ◌≡◌ {A = ℕ} 0 1 = cc in
        absurd (omega arith)
    go (failed t) = let same : Err g ≡ Err f = rw t at e in (eqb-false f.code 0 t, cc)

module _ (rule : Rule) (caps : List Item) (l : List ℕ) (at : ℕ) where
  pub check_clean : (m : Marks) → Ok m ≡ check_of rule caps l at
      → ((fault_in rule caps (items (drop at l))).code ≡ 0) × (m ≡ marks_from l at no_marks)
  unfolding check_of
  check_clean m e = told_clean _ (marks_from l at no_marks) m e
