-- Books alike answer alike: an entry stands at the same place in both, what is looked up of it is the same, and category 8 is
-- looked up only by the commands that use delay reporting.
use Prim.Native.Nat.{ℕ, zero, suc, ◌<◌}
use mathlib.Core.Path.{◌≡◌, refl, sym, ap, ap₂, ◌∙◌, subst}
use mathlib.Core.List.{List, [], ◌∷◌}
use mathlib.Core.Bool.{Bool, true, false, not, ◌&&◌, ◌||◌}
use lib.ListN.{length, drop, get_or, set, get_or-eq_default}
use lib.Dec.{leb, eqb}
use borrow.Author.Tests.{leb-false, eqb-true, eqb-false, ne_eqb}
use native.Mathlib.Omega.{arith}
use Rattle.rules.proofs.Tests.{Told?, passed, failed, told, clash, and_l, and_r, not_passed, same_octets_lem}
use Rattle.rules.proofs.Lists.{items_shown}
use Rattle.rules.specs.Octets.{some_of, each_of}
use Rattle.std.specs.Prelude.{if◌then◌else◌}
use Rattle.rules.specs.Elements.{Item, whole, short, items, category_of, strange, transport, reporting, recovery, protection}
use Rattle.rules.specs.Elements.{compression, multiplexing, codec, delaying, offers_in, offered, fixed, is_strange, item_code}
use Rattle.rules.specs.Elements.{judge, item_category, blamed, fault_or, fault_past, fault_in, is_of, has}
use Rattle.rules.specs.Book.{Entry, Book, Found, unknown, known, later, find, up_to_codec, shown_by_02}
use Rattle.rules.specs.Packets.{Message}
use Rattle.rules.specs.Endpoints.{Ends, Connection, idle, fresh_ends, fresh_connection, end_at, in_state, moved_by, down_at}
use Rattle.rules.specs.Endpoints.{happens}
use Rattle.rules.specs.Commands.{accept, Outcome, stays, rejects, length_right, our_in, may, refused, here, met_at, meets}
use Rattle.rules.specs.Commands.{preamble, at_met, named, discovered, discover, offers_at, set_at, configuration_at}
use Rattle.rules.specs.Commands.{reconfigure_at, open_at, shift_one, shift_each, shift, leave_at, security_at, signal_of, obey}
use Rattle.rules.specs.Commands.{answer, Met}
use Rattle.rules.specs.Alike.{alike_entry, alike, uses_delay}
use Rattle.rules.specs.declared.OurSeid.{OurSeid}
use Rattle.rules.specs.declared.Rule.{Rule}
use Rattle.rules.specs.declared.Rule.TheVariants.{Offer, Setting, Reconfiguring}
use Rattle.rules.specs.declared.State.{State}
use Rattle.rules.specs.declared.Event.{Event}
use Rattle.rules.specs.declared.Event.TheVariants.{Down, Lost}
use Rattle.rules.specs.declared.Signal.{Signal}
use Rattle.rules.specs.declared.Signal.TheVariants.{Discover, GetCapabilities, SetConfiguration, GetConfiguration}
use Rattle.rules.specs.declared.Signal.TheVariants.{Reconfigure, OpenUp, Start, Close, Suspend, Abort, SecurityControl}
use Rattle.rules.specs.declared.Signal.TheVariants.{GetAllCapabilities, DelayReport, Unassigned}

-- ---- Entries alike: same SEID, same kind, and same elements of categories 1 to 7

alike_seid : (n n' : Entry) → alike_entry n n' ≡ true → n.seid ≡ n'.seid
unfolding alike_entry
alike_seid n n' e =
    let same : n.seid.0 ≡ n'.seid.0 = eqb-true n.seid.0 n'.seid.0 (search (and_l, and_r)) in
    λ i. record { 0 = same i }

alike_kind : (n n' : Entry) → alike_entry n n' ≡ true → n.kind ≡ n'.kind
unfolding alike_entry
alike_kind n n' e = eqb-true n.kind n'.kind (search (and_l, and_r))

pub alike_shown : (n n' : Entry) → alike_entry n n' ≡ true → shown_by_02 n ≡ shown_by_02 n'
unfolding alike_entry
alike_shown n n' e = same_octets_lem (shown_by_02 n) (shown_by_02 n') (search (and_l, and_r))

alike_items : (n n' : Entry) → alike_entry n n' ≡ true → up_to_codec (items n.caps) ≡ up_to_codec (items n'.caps)
unfolding shown_by_02
alike_items n n' e =
    sym (items_shown (items n.caps)) ∙ ap (λ (l : List ℕ). items l) (alike_shown n n' e) ∙ items_shown (items n'.caps)

-- ---- The checks of elements look up categories 1 to 7 only, where 8 is not asked for

offers_not : (c d : ℕ) (v w : List ℕ) → leb c 7 ≡ true → leb d 7 ≡ false → offers_in c v (whole d w) ≡ false
unfolding offers_in
offers_not c d v w low high = rw (ne_eqb c d apart)
  where
    apart : c ≡ d → ⊥
    apart same = clash (ap (λ (k : ℕ). leb k 7) (sym same) ∙ low) high

-- One item more: where it is left out it is of another category than c.
offered_more : (t : Bool) (d : ℕ) (w : List ℕ) (is : List Item) (c : ℕ) (v : List ℕ) → leb d 7 ≡ t → leb c 7 ≡ true
    → offered (up_to_codec is) c v ≡ offered is c v
    → offered (if t then whole d w ∷ up_to_codec is else up_to_codec is) c v ≡ offered (whole d w ∷ is) c v
unfolding offered some_of
offered_more true d w is c v shown low rest = ap (λ (b : Bool). offers_in c v (whole d w) || b) rest
offered_more false d w is c v left low rest = rest ∙ ap (λ (b : Bool). b || offered is c v) (sym (offers_not c d v w low left))

offered_up_to_codec : (is : List Item) (c : ℕ) (v : List ℕ) → leb c 7 ≡ true → offered (up_to_codec is) c v ≡ offered is c v
unfolding offered some_of up_to_codec offers_in
offered_up_to_codec [] c v low = refl
offered_up_to_codec (short d ∷ is) c v low = offered_up_to_codec is c v low
offered_up_to_codec (whole d w ∷ is) c v low = offered_more (leb d 7) d w is c v refl low (offered_up_to_codec is c v low)

-- Two lists that offer alike up to category 7.
abbrev OfferAlike : List Item → List Item → Type 0
OfferAlike caps caps' = (c : ℕ) (v : List ℕ) → leb c 7 ≡ true → offered caps c v ≡ offered caps' c v

alike_offered : (n n' : Entry) → alike_entry n n' ≡ true → OfferAlike (items n.caps) (items n'.caps)
alike_offered n n' e c v low =
    sym (offered_up_to_codec (items n.caps) c v low) ∙ ap (λ (is : List Item). offered is c v) (alike_items n n' e)
    ∙ offered_up_to_codec (items n'.caps) c v low

-- Category 8 is not looked up for this item: the command has it fixed, or the item is of another category.
passes8 : Rule → Item → Bool
passes8 rule i = fixed rule delaying || not (is_of 8 i)

pub above_is_strange : (c : ℕ) → 8 < c → category_of c ≡ strange
unfolding category_of
above_is_strange c high =
    get_or-eq_default
    (strange ∷ transport ∷ reporting ∷ recovery ∷ protection ∷ compression ∷ multiplexing ∷ codec ∷ delaying ∷ [])
    strange high

code_of_8 : (rule : Rule) (caps caps' : List Item) (seen v : List ℕ) → passes8 rule (whole 8 v) ≡ true
    → item_code rule caps seen (whole 8 v) ≡ item_code rule caps' seen (whole 8 v)
unfolding item_code is_strange fixed category_of passes8 is_of
code_of_8 (Offer media) caps caps' seen v passes = clash refl (sym passes)
code_of_8 Setting caps caps' seen v passes = clash refl (sym passes)
code_of_8 Reconfiguring caps caps' seen v passes = refl

-- category 8 and above: nothing is looked up
high_code_alike : (rule : Rule) (caps caps' : List Item) (seen : List ℕ) (c : ℕ) (v : List ℕ) → leb c 7 ≡ false
    → passes8 rule (whole c v) ≡ true → Told? (eqb c 8)
    → item_code rule caps seen (whole c v) ≡ item_code rule caps' seen (whole c v)
unfolding item_code is_strange
high_code_alike rule caps caps' seen c v high passes (passed is8) =
    let eight = eqb-true c 8 is8 in rw eight (code_of_8 rule caps caps' seen v (rw eight at passes))
high_code_alike rule caps caps' seen c v high passes (failed other) =
    rw (above_is_strange c (omega (arith, leb-false c 7 high, eqb-false c 8 other)), is_strange)

code_alike : (rule : Rule) (caps caps' : List Item) (seen : List ℕ) (i : Item) → OfferAlike caps caps'
    → passes8 rule i ≡ true → item_code rule caps seen i ≡ item_code rule caps' seen i
unfolding item_code
code_alike rule caps caps' seen (short c) same passes = refl
code_alike rule caps caps' seen (whole c v) same passes = go (told (leb c 7))
  where
    go : Told? (leb c 7) → item_code rule caps seen (whole c v) ≡ item_code rule caps' seen (whole c v)
    go (passed low) = rw (same c v low)
    go (failed high) = high_code_alike rule caps caps' seen c v high passes (told (eqb c 8))

judge_alike : (rule : Rule) (caps caps' : List Item) (seen : List ℕ) (i : Item) → OfferAlike caps caps'
    → passes8 rule i ≡ true → judge rule caps seen i ≡ judge rule caps' seen i
unfolding judge
judge_alike (Offer media) caps caps' seen i same passes = refl
judge_alike Setting caps caps' seen i same passes = code_alike Setting caps caps' seen i same passes
judge_alike Reconfiguring caps caps' seen i same passes = code_alike Reconfiguring caps caps' seen i same passes

past_alike : (rule : Rule) (caps caps' : List Item) (seen : List ℕ) (is : List Item) → OfferAlike caps caps'
    → each_of (passes8 rule) is ≡ true → fault_past rule caps seen is ≡ fault_past rule caps' seen is
unfolding fault_past each_of
past_alike rule caps caps' seen [] same passes = refl
past_alike rule caps caps' seen (i ∷ is) same passes =
    ap₂ (λ n f. fault_or (blamed i n) f)
    (judge_alike rule caps caps' seen i same (and_l (passes8 rule i) (each_of (passes8 rule) is) passes))
    (past_alike rule caps caps' (item_category i ∷ seen) is same
    (and_r (passes8 rule i) (each_of (passes8 rule) is) passes))

fault_alike : (rule : Rule) (n n' : Entry) → alike_entry n n' ≡ true → (is : List Item) → each_of (passes8 rule) is ≡ true
    → fault_in rule (items n.caps) is ≡ fault_in rule (items n'.caps) is
unfolding fault_in
fault_alike rule n n' e is passes = past_alike rule (items n.caps) (items n'.caps) [] is (alike_offered n n' e) passes

reconfiguring_passes8 : (is : List Item) → each_of (passes8 Reconfiguring) is ≡ true
unfolding each_of passes8 fixed
reconfiguring_passes8 [] = refl
reconfiguring_passes8 (i ∷ is) = reconfiguring_passes8 is

setting_passes8 : (is : List Item) → has 8 is ≡ false → each_of (passes8 Setting) is ≡ true
unfolding each_of passes8 fixed has some_of
setting_passes8 [] unasked = refl
setting_passes8 (i ∷ is) unasked = go (is_of 8 i) (setting_passes8 is) unasked
  where
    go : (t : Bool) → (has 8 is ≡ false → each_of (passes8 Setting) is ≡ true) → t || has 8 is ≡ false
        → not t && each_of (passes8 Setting) is ≡ true
    go true rest none_asked = clash refl none_asked
    go false rest none_asked = rest none_asked

-- ---- Books alike, entry by entry

pub data AlikeBooks : Book → Book → Type 0 where
  no_entry : AlikeBooks [] []
  entries : {n n' : Entry} {book book' : Book} → alike_entry n n' ≡ true → AlikeBooks book book'
      → AlikeBooks (n ∷ book) (n' ∷ book')

pub alike_books : (book book' : Book) → alike book book' ≡ true → AlikeBooks book book'
unfolding alike
alike_books [] [] e = no_entry
alike_books [] (n' ∷ book') e = clash refl (sym e)
alike_books (n ∷ book) [] e = clash refl (sym e)
alike_books (n ∷ book) (n' ∷ book') e =
    entries (and_l (alike_entry n n') (alike book book') e)
    (alike_books book book' (and_r (alike_entry n n') (alike book book') e))

fresh_ends_same : {book book' : Book} → AlikeBooks book book' → fresh_ends book ≡ fresh_ends book'
unfolding fresh_ends
fresh_ends_same no_entry = refl
fresh_ends_same (entries {n} {n'} e rest) = ap₂ ◌∷◌ (ap idle (alike_seid n n' e)) (fresh_ends_same rest)

pub fresh_same : {book book' : Book} → AlikeBooks book book' → fresh_connection book ≡ fresh_connection book'
unfolding fresh_connection
fresh_same same = rw (fresh_ends_same same)

-- ---- Finding: the same place in both books, and entries alike

pub data FoundAlike : Found → Found → Type 0 where
  both_unknown : FoundAlike unknown unknown
  both_known : (i : ℕ) (n n' : Entry) → alike_entry n n' ≡ true → FoundAlike (known i n) (known i n')

later_alike : (f f' : Found) → FoundAlike f f' → FoundAlike (later f) (later f')
unfolding later
later_alike f f' both_unknown = both_unknown
later_alike f f' (both_known i n n' e) = both_known (suc i) n n' e

here_alike : (t : Bool) (n n' : Entry) (f f' : Found) → alike_entry n n' ≡ true → FoundAlike f f'
    → FoundAlike (if t then known 0 n else later f) (if t then known 0 n' else later f')
here_alike true n n' f f' e rest = both_known 0 n n' e
here_alike false n n' f f' e rest = later_alike f f' rest

pub find_alike : (s : OurSeid) {book book' : Book} → AlikeBooks book book' → FoundAlike (find s book) (find s book')
unfolding find
find_alike s no_entry = both_unknown
find_alike s (entries {n} {n'} {book} {book'} e rest) =
    subst
    (λ (k : OurSeid). FoundAlike (if eqb n.seid.0 s.0 then known 0 n else later (find s book))
    (if eqb k.0 s.0 then known 0 n' else later (find s book')))
    (alike_seid n n' e)
    (here_alike (eqb n.seid.0 s.0) n n' (find s book) (find s book') e (find_alike s rest))

-- ---- Commands: the checks come to the same, and what is done at the place that is found is the same for entries alike

data MetAlike : Met → Met → Type 0 where
  both_refused : (code : ℕ) → MetAlike (refused code) (refused code)
  both_here : (i : ℕ) (n n' : Entry) → alike_entry n n' ≡ true → MetAlike (here i n) (here i n')

allowed_alike : (b : Bool) (code i : ℕ) (n n' : Entry) → alike_entry n n' ≡ true
    → MetAlike (if b then here i n else refused code) (if b then here i n' else refused code)
allowed_alike true code i n n' e = both_here i n n' e
allowed_alike false code i n n' e = both_refused code

met_alike : (signal : Signal) (ends : Ends) (f f' : Found) → FoundAlike f f'
    → MetAlike (met_at signal ends f) (met_at signal ends f')
unfolding met_at
met_alike signal ends f f' both_unknown = both_refused 0x12
met_alike signal ends f f' (both_known i n n' e) = allowed_alike (may signal _ _) _ i n n' e

module _ (signal : Signal) {book book' : Book} (same : AlikeBooks book book') (ends : Ends) where
  meets_alike : (s : OurSeid) → MetAlike (meets signal book ends s) (meets signal book' ends s)
  unfolding meets
  meets_alike s = met_alike signal ends _ _ (find_alike s same)

  preamble_alike : (p : List ℕ) → MetAlike (preamble signal book ends p) (preamble signal book' ends p)
  unfolding preamble
  preamble_alike p = go (length_right signal (length p))
    where
      go : (b : Bool)
          → MetAlike (if b then meets signal book ends (our_in (get_or p 0 0)) else refused 0x11)
          (if b then meets signal book' ends (our_in (get_or p 0 0)) else refused 0x11)
      go true = meets_alike (our_in (get_or p 0 0))
      go false = both_refused 0x11

  module _ (on on' : ℕ → Entry → Outcome) (there : (i : ℕ) (n n' : Entry) → alike_entry n n' ≡ true → on i n ≡ on' i n') where
    met_same : (m m' : Met) → MetAlike m m' → at_met signal ends on m ≡ at_met signal ends on' m'
    unfolding at_met
    met_same m m' (both_refused code) = refl
    met_same m m' (both_here i n n' e) = there i n n' e

    named_same : (p : List ℕ) → named signal book ends p on ≡ named signal book' ends p on'
    unfolding named
    named_same p = met_same _ _ (preamble_alike p)

discovered_alike : {book book' : Book} (ends : Ends) → AlikeBooks book book' → discovered book ends ≡ discovered book' ends
unfolding discovered
discovered_alike ends no_entry = refl
discovered_alike [] (entries e rest) = refl
discovered_alike (x ∷ ends) (entries {n} {n'} e rest) = rw (alike_seid n n' e, alike_kind n n' e, discovered_alike ends rest)

set_at_alike : (ends : Ends) (p : List ℕ) (i : ℕ) (n n' : Entry) → has 8 (items (drop 2 p)) ≡ false → alike_entry n n' ≡ true
    → set_at ends p i n ≡ set_at ends p i n'
unfolding set_at
set_at_alike ends p i n n' unasked e = rw
    (fault_alike Setting n n' e (items (drop 2 p)) (setting_passes8 (items (drop 2 p)) unasked))

reconfigure_at_alike : (ends : Ends) (p : List ℕ) (i : ℕ) (n n' : Entry) → alike_entry n n' ≡ true
    → reconfigure_at ends p i n ≡ reconfigure_at ends p i n'
unfolding reconfigure_at
reconfigure_at_alike ends p i n n' e = rw
    (fault_alike Reconfiguring n n' e (items (drop 1 p)) (reconfiguring_passes8 (items (drop 1 p))))

shift_one_same : (signal : Signal) (to : State) (s : OurSeid) (ends : Ends) (next next' : Ends → Outcome) (m m' : Met)
    → MetAlike m m' → ((x : Ends) → next x ≡ next' x) → shift_one signal to s ends next m ≡ shift_one signal to s ends next' m'
unfolding shift_one
shift_one_same signal to s ends next next' m m' (both_refused code) rest = refl
shift_one_same signal to s ends next next' m m' (both_here i n n' e) rest =
    rest (set ends i (moved_by (in_state to) (end_at ends i)))

module _ (signal : Signal) (to : State) {book book' : Book} (same : AlikeBooks book book') where
  shift_each_same : (ends : Ends) (os : List ℕ) → shift_each signal to book ends os ≡ shift_each signal to book' ends os
  unfolding shift_each
  shift_each_same ends [] = refl
  shift_each_same ends (o ∷ os) =
      shift_one_same signal to (our_in o) ends _ _ _ _ (meets_alike signal same ends (our_in o)) (λ x. shift_each_same x os)

  shift_same : (ends : Ends) (p : List ℕ) → shift signal to book ends p ≡ shift signal to book' ends p
  unfolding shift
  shift_same ends p =
      ap (λ (o : Outcome). if length_right signal (length p) then o else stays ends (rejects signal 0 0x11))
      (shift_each_same ends p)

-- a command that has no use for delay reporting
unfoldable pub forgoes : Signal → List ℕ → Bool
forgoes Discover p = true
forgoes GetCapabilities p = true
forgoes SetConfiguration p = not (has 8 (items (drop 2 p)))
forgoes GetConfiguration p = true
forgoes Reconfigure p = true
forgoes OpenUp p = true
forgoes Start p = true
forgoes Close p = true
forgoes Suspend p = true
forgoes Abort p = true
forgoes SecurityControl p = true
forgoes GetAllCapabilities p = false
forgoes DelayReport p = false
forgoes Unassigned p = true

obey_same : (s : Signal) {book book' : Book} (ends : Ends) (p : List ℕ) → AlikeBooks book book' → forgoes s p ≡ true
    → obey s book ends p ≡ obey s book' ends p
unfolding obey forgoes discover offers_at configuration_at open_at leave_at security_at
obey_same Discover ends p same ok =
    ap (λ (l : List ℕ). stays ends (if length_right Discover (length p) then accept l else rejects Discover 0 0x11))
    (discovered_alike ends same)
obey_same GetCapabilities ends p same ok =
    named_same _ same ends _ _ (λ i n n' e. ap (λ (l : List ℕ). stays ends (accept l)) (alike_shown n n' e)) p
obey_same SetConfiguration ends p same ok =
    named_same _ same ends _ _ (λ i n n' e. set_at_alike ends p i n n' (not_passed (has 8 (items (drop 2 p))) ok) e) p
obey_same GetConfiguration ends p same ok = named_same _ same ends _ _ (λ i n n' e. refl) p
obey_same Reconfigure ends p same ok = named_same _ same ends _ _ (reconfigure_at_alike ends p) p
obey_same OpenUp ends p same ok = named_same _ same ends _ _ (λ i n n' e. refl) p
obey_same Start ends p same ok = shift_same _ _ same ends p
obey_same Close ends p same ok = named_same _ same ends _ _ (λ i n n' e. refl) p
obey_same Suspend ends p same ok = shift_same _ _ same ends p
obey_same Abort ends p same ok = named_same _ same ends _ _ (λ i n n' e. refl) p
obey_same SecurityControl ends p same ok = named_same _ same ends _ _ (λ i n n' e. refl) p
obey_same GetAllCapabilities ends p same ok = clash refl (sym ok)
obey_same DelayReport ends p same ok = clash refl (sym ok)
obey_same Unassigned ends p same ok = refl

-- signals 0 to 13 one by one, and those above
signal_forgoes : (n : ℕ) (p : List ℕ) → eqb n 0x0C || eqb n 0x0D || (eqb n 0x03 && has 8 (items (drop 2 p))) ≡ false
    → forgoes (signal_of n) p ≡ true
unfolding forgoes signal_of
signal_forgoes zero p unused = refl
signal_forgoes (suc zero) p unused = refl
signal_forgoes (suc (suc zero)) p unused = refl
signal_forgoes (suc (suc (suc zero))) p unused = ap not unused
signal_forgoes (suc (suc (suc (suc zero)))) p unused = refl
signal_forgoes (suc (suc (suc (suc (suc zero))))) p unused = refl
signal_forgoes (suc (suc (suc (suc (suc (suc zero)))))) p unused = refl
signal_forgoes (suc (suc (suc (suc (suc (suc (suc zero))))))) p unused = refl
signal_forgoes (suc (suc (suc (suc (suc (suc (suc (suc zero)))))))) p unused = refl
signal_forgoes (suc (suc (suc (suc (suc (suc (suc (suc (suc zero))))))))) p unused = refl
signal_forgoes (suc (suc (suc (suc (suc (suc (suc (suc (suc (suc zero)))))))))) p unused = refl
signal_forgoes (suc (suc (suc (suc (suc (suc (suc (suc (suc (suc (suc zero))))))))))) p unused = refl
signal_forgoes (suc (suc (suc (suc (suc (suc (suc (suc (suc (suc (suc (suc zero)))))))))))) p unused = clash refl unused
signal_forgoes (suc (suc (suc (suc (suc (suc (suc (suc (suc (suc (suc (suc (suc zero))))))))))))) p unused = clash refl unused
signal_forgoes (suc (suc (suc (suc (suc (suc (suc (suc (suc (suc (suc (suc (suc (suc n)))))))))))))) p unused = refl

pub message_forgoes : (m : Message) → m.header.mtype ≡ 0 → uses_delay m ≡ false
    → forgoes (signal_of m.header.signal) m.payload ≡ true
unfolding uses_delay
message_forgoes m command unused = signal_forgoes m.header.signal m.payload (rw command at unused)

pub answer_same : {book book' : Book} (ends : Ends) (m : Message) → AlikeBooks book book' → uses_delay m ≡ false
    → answer book ends m ≡ answer book' ends m
unfolding answer
answer_same {book} {book'} ends m same unused = go (told (eqb m.header.mtype 0))
  where
    go : Told? (eqb m.header.mtype 0) → answer book ends m ≡ answer book' ends m
    go (passed command) =
        rw command
        (obey_same (signal_of m.header.signal) ends m.payload same
        (message_forgoes m (eqb-true m.header.mtype 0 command) unused))
    go (failed other) = rw other

-- ---- Link events

down_same : (f f' : Found) (c : Connection) → FoundAlike f f' → down_at f c ≡ down_at f' c
unfolding down_at
down_same f f' c both_unknown = refl
down_same f f' c (both_known i n n' e) = refl

pub happens_same : {book book' : Book} (c : Connection) (v : Event) → AlikeBooks book book' → happens book c v ≡ happens book' c v
unfolding happens
happens_same c Event.Up same = refl
happens_same c (Down s) same = down_same _ _ c (find_alike s same)
happens_same c Lost same = refl
