-- Channel up over the records: what the heads show is what the endpoints show, and the first that awaits is moved.
use Rattle.std.proofs.Common.{ℕ, ◌+◌, ◌*◌, ◌<◌, ◌≡◌, sym, ap, ap₂, ◌∙◌, subst, List, Bool, true, false, arith, length, ne_eqb}
use Rattle.std.proofs.Common.{eq-eqb}
use native.Mathlib.Decide.{dec_lt}
use Rattle.rules.specs.Endpoints.{Ends, end_at, is_awaited, awaiting, up_in, with_channel}
use Rattle.rules.specs.Saved.{record_room, head_in, head_octets, ends_in, store_ends, record_at}
use Rattle.rules.specs.declared.Channel.TheVariants.{Up}
use Rattle.rules.specs.declared.Head.{Head}
use Rattle.rules.proofs.ChannelUp.{NoneBefore, none_awaits, first_up, some_awaits}
use Rattle.rules.proofs.SavedReads.{length_ends_in}
use Rattle.octets.specs.Patch.{patch}
use Rattle.saved.specs.Records.{config_size_at}
use Rattle.saved.specs.Held.{Held}
use Rattle.saved.proofs.OneStore.{loaded_one}
use Rattle.saved.proofs.HeadMoved.{moved_stored}
use Rattle.saved_events.specs.Events.{MovedRecords, upped}

-- the channel of record i
pub channel_shown : (n i : ℕ) (l : List ℕ) → i < n → (end_at (ends_in n l) i).head.channel ≡ (head_in (record_at i l)).channel
channel_shown n i l inside = ap (λ e. e.head.channel) (loaded_one n i l inside)

-- one more that does not await
pub one_more : (n i : ℕ) (l : List ℕ) → i < n → NoneBefore (ends_in n l) i → is_awaited (head_in (record_at i l)).channel ≡ false
    → NoneBefore (ends_in n l) (i + 1)
one_more n i l inside before here j h = go (dec_lt j i)
  where
    go : Dec (j < i) → is_awaited (end_at (ends_in n l) j).head.channel ≡ false
    go (yes b) = before j b
    go (no b) =
        let e : j ≡ i = omega arith in
        subst (λ (k : ℕ). is_awaited (end_at (ends_in n l) k).head.channel ≡ false) (sym e)
        (ap is_awaited (channel_shown n i l inside) ∙ here)

-- the head of record i moved by its channel's coming up, its configuration as it was
abbrev pub upped_at : ℕ → Head → List ℕ → List ℕ
upped_at i h l = patch (i * record_room) (head_octets (with_channel Up h) (config_size_at i l)) l

-- the first that awaits
pub up_here : (n i : ℕ) (l : List ℕ) → i < n → Held n l → NoneBefore (ends_in n l) i
    → is_awaited (head_in (record_at i l)).channel ≡ true
    → ◌≡◌ {A = MovedRecords} (record { number = 0; records = upped_at i (head_in (record_at i l)) l }) (upped n l)
unfolding upped
up_here n i l inside held before a =
    let ends = ends_in n l in
    let h = head_in (record_at i l) in
    let within : i < length ends = rw length_ends_in inside in
    let b : is_awaited (end_at ends i).head.channel ≡ true = ap is_awaited (channel_shown n i l inside) ∙ a in
    let some = some_awaits ends i within b in
    let stored : upped_at i h l ≡ store_ends (up_in ends) l =
    moved_stored n i l inside held (with_channel Up)
    ∙ ap (λ (x : Ends). store_ends x l) (sym (first_up ends i before within b)) in
    rw (ne_eqb (awaiting ends) 0 (λ z. omega arith)) (ap (λ (x : List ℕ). record { number = 0; records = x }) stored)

-- none awaits
pub up_nowhere : (n i : ℕ) (l : List ℕ) → i ≡ n → NoneBefore (ends_in n l) i
    → ◌≡◌ {A = MovedRecords} (record { number = 10; records = l }) (upped n l)
unfolding upped
up_nowhere n i l e before =
    let ends = ends_in n l in
    let all : NoneBefore ends (length ends) = λ j h. before j (omega (arith, length_ends_in n l)) in
    rw (eq-eqb (awaiting ends) 0 (none_awaits ends all))

-- the same from what the calls answer: h was got, h' is h moved, and m is what was set
pub up_done : (n i : ℕ) (l l₀ m : List ℕ) (h h' : Head) (b : Bool) → i < n → Held n l₀ → NoneBefore (ends_in n l₀) i → l ≡ l₀
    → h ≡ head_in (record_at i l) → b ≡ is_awaited h.channel → b ≡ true → h' ≡ with_channel Up h
    → m ≡ patch (i * record_room) (head_octets h' (config_size_at i l)) l
    → ◌≡◌ {A = MovedRecords} (record { number = 0; records = m }) (upped n l₀)
up_done n i l l₀ m h h' b inside held before same got asked yes! moved stored =
    let got₀ : h ≡ head_in (record_at i l₀) = got ∙ ap (λ (x : List ℕ). head_in (record_at i x)) same in
    let awaits : is_awaited (head_in (record_at i l₀)).channel ≡ true = sym (ap (λ (x : Head). is_awaited x.channel) got₀)
    ∙ sym asked ∙ yes! in
    ap (λ (x : List ℕ). record { number = 0; records = x })
    (stored ∙ ap (λ (x : Head). patch (i * record_room) (head_octets x (config_size_at i l)) l) moved
    ∙ ap₂ (upped_at i) got₀ same)
    ∙ up_here n i l₀ inside held before awaits

pub up_goes_on : (n i : ℕ) (l l₀ : List ℕ) (h : Head) (b : Bool) → i < n → NoneBefore (ends_in n l₀) i → l ≡ l₀
    → h ≡ head_in (record_at i l) → b ≡ is_awaited h.channel → b ≡ false → NoneBefore (ends_in n l₀) (i + 1)
up_goes_on n i l l₀ h b inside before same got asked left =
    let got₀ : h ≡ head_in (record_at i l₀) = got ∙ ap (λ (x : List ℕ). head_in (record_at i x)) same in
    one_more n i l₀ inside before (sym (ap (λ (x : Head). is_awaited x.channel) got₀) ∙ sym asked ∙ left)

pub up_never : (n i : ℕ) (l l₀ : List ℕ) → i ≡ n → NoneBefore (ends_in n l₀) i → l ≡ l₀
    → ◌≡◌ {A = MovedRecords} (record { number = 10; records = l }) (upped n l₀)
up_never n i l l₀ e before same = ap (λ (x : List ℕ). record { number = 10; records = x }) same ∙ up_nowhere n i l₀ e before
