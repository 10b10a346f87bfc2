-- What a lent area holds makes no difference to what is compared of an answer: the calls test only its length, and of the area
-- at exit the octets are compared that the call itself wrote at its front.
use Prim.Native.Nat.{ℕ, zero, suc, ◌-◌, ◌*◌, ◌≤◌}
use native.Mathlib.Omega.{arith}
use mathlib.Core.Path.{◌≡◌, refl, sym, ap, ap₂, ◌∙◌, subst, subst₂}
use mathlib.Core.List.{List, [], ◌∷◌, ◌++◌, map}
use mathlib.Core.Bool.{Bool, true, false}
use mathlib.Core.Option.{Option, none, some}
use lib.ListN.{length, take, drop, replicate, length-drop, length-replicate}
use lib.Seq.{take-append_seam, length-take-le, take_at, drop_at}
use lib.Dec.{eqb}
use borrow.Author.Tests.{eqb-true}
use Rattle.rules.specs.Octets.{front}
use Rattle.std.specs.Prelude.{if◌then◌else◌}
use Rattle.rules.specs.Book.{Book, book_number, book_of}
use Rattle.rules.specs.Packets.{Message, Gathering, gather, size_right}
use Rattle.rules.specs.Gathered.{gather_all}
use Rattle.rules.specs.Cutting.{packet_at}
use Rattle.rules.specs.Endpoints.{Ends, Connection}
use Rattle.rules.specs.Saved.{connection_in, store, saved_right}
use Rattle.rules.specs.Commands.{Reply, silence, general_reject, accept, reject, answer}
use Rattle.rules.specs.Host.{nothing_said, said, told_of, payload_of, Handled, handled_by, takes, packet_refusal, Answered}
use Rattle.rules.specs.Host.{packet_call, cut_refusal, cut_call, Cut}
use Rattle.rules.specs.Bursts.{packets_in, slot, Successive, and_then, successive, most_packets, burst_refusal, filled}
use Rattle.rules.specs.Bursts.{none_told, BurstAnswered, burst_taken, burst_call}
use Rattle.rules.specs.Sessions.{Call, check, fresh, packet, event, settings, delay, packets, cut, told, cut_off, answered}
use Rattle.rules.specs.Sessions.{asked, call, answers, after, status, burst, told_each, answered_each}
use Rattle.rules.specs.Alike.{restrained, after_event, cleared, written_in, compared}
use Rattle.rules.specs.declared.Told.{Told}
use Rattle.rules.proofs.Tests.{Told?, passed, failed, told as whether}
use Rattle.rules.proofs.SavedReads.{front_length}
use Rattle.rules.proofs.RightBook.{right_book}
use Rattle.rules.proofs.ShortReplies.{reply_short}
use Rattle.rules.proofs.Bursts.{slots_fit, successive_first}
use Rattle.rules.proofs.Unrefused.{burst_given}
use Rattle.rules.proofs.SavedStaysRight.{right_legal}
use Rattle.rules.proofs.OneByOne.{comes, next_right}

-- ---- What is written is read at the front

pub front_read : (s area : List ℕ) → take (length s) (front s area) ≡ s
unfolding front
front_read s area = take-append_seam s (drop (length s) area)

told_length : (m : Message) (r : Reply) → (told_of m r).length ≡ length (payload_of r)
unfolding told_of payload_of nothing_said said
told_length m silence = refl
told_length m general_reject = refl
told_length m (accept p) = refl
told_length m (reject p) = refl

handled_length : (book : Book) (ends : Ends) (g : Option Gathering) (m : Option Message)
    → (handled_by book ends g m).told.length ≡ length (handled_by book ends g m).payload
unfolding handled_by nothing_said
handled_length book ends g none = refl
handled_length book ends g (some m) = told_length m (answer book ends m).reply

pub takes_length : (book : Book) (size : ℕ) (c : Connection) (p : List ℕ)
    → (takes book size c p).told.length ≡ length (takes book size c p).payload
unfolding takes
takes_length book size c p =
    handled_length book c.ends (gather size c.link.gathering p).gathering (gather size c.link.gathering p).done

-- ---- packet: a number, and what the packet leads to

unfoldable answered_by : Bool → ℕ → Handled → List ℕ → List ℕ → Answered
answered_by b number t saved reply =
    if b then record { told = t.told; saved = store t.connection saved; reply = front t.payload reply }
    else record { told = nothing_said number; saved = saved; reply = reply }

module _ (number : ℕ) (t : Handled) (saved reply reply' : List ℕ) (long : t.told.length ≡ length t.payload) where
  payload_read : (area : List ℕ) → take t.told.length (front t.payload area) ≡ t.payload
  payload_read area = ap (λ (k : ℕ). take k (front t.payload area)) long ∙ front_read t.payload area

  told_alike : (b : Bool)
      → let a = answered_by b number t saved reply in
      let a' = answered_by b number t saved reply' in
      compared (told a.told a.reply) ≡ compared (told a'.told a'.reply)
  unfolding answered_by compared nothing_said
  told_alike true = ap (told t.told) (payload_read reply ∙ sym (payload_read reply'))
  told_alike false = refl

  saved_alike : (b : Bool) → (answered_by b number t saved reply).saved ≡ (answered_by b number t saved reply').saved
  unfolding answered_by
  saved_alike true = refl
  saved_alike false = refl

module _ (b : List ℕ) (size : ℕ) (saved p reply reply' : List ℕ) (same : length reply ≡ length reply') where
  refusal_alike : packet_refusal b size saved reply ≡ packet_refusal b size saved reply'
  unfolding packet_refusal
  refusal_alike = rw same

  packet_told_alike :
      let a = packet_call b size saved p reply in
      let a' = packet_call b size saved p reply' in
      compared (told a.told a.reply) ≡ compared (told a'.told a'.reply)
  unfolding packet_call answered_by
  packet_told_alike =
      let c = connection_in (length (book_of b)) saved in
      let n = packet_refusal b size saved reply' in
      rw refusal_alike
      (told_alike n (takes (book_of b) size c p) saved reply reply' (takes_length (book_of b) size c p) (eqb n 0))

  packet_saved_alike : (packet_call b size saved p reply).saved ≡ (packet_call b size saved p reply').saved
  unfolding packet_call answered_by
  packet_saved_alike =
      let c = connection_in (length (book_of b)) saved in
      let n = packet_refusal b size saved reply' in
      rw refusal_alike
      (saved_alike n (takes (book_of b) size c p) saved reply reply' (takes_length (book_of b) size c p) (eqb n 0))

-- ---- burst: of a packet that is told zeros nothing was written, and of the others their payloads

zeros_written : (k : ℕ) (reply : List ℕ) → written_in (replicate k (nothing_said 0)) reply ≡ []
unfolding written_in nothing_said
zeros_written zero reply = refl
zeros_written (suc k) reply = zeros_written k (drop slot reply)

zeros_behind : (ts : List Told) (k : ℕ) (reply : List ℕ)
    → written_in (ts ++ replicate k (nothing_said 0)) reply ≡ written_in ts reply
unfolding written_in
zeros_behind [] k reply = zeros_written k reply
zeros_behind (t ∷ ts) k reply =
    ap (λ (l : List ℕ). take t.length (take slot reply) ++ l) (zeros_behind ts k (drop slot reply))

filled_written : (ts : List Told) (reply : List ℕ) → written_in (filled ts) reply ≡ written_in ts reply
unfolding filled
filled_written ts reply = zeros_behind ts (most_packets - length ts) reply

record SuccessiveAlike (a a' : Successive) : Type 0 where
  told : a.told ≡ a'.told
  saved : a.saved ≡ a'.saved
  written : written_in a.told a.reply ≡ written_in a'.told a'.reply

module _ (b : List ℕ) (size : ℕ) (ok : book_number b ≡ 0) (sized : size_right size ≡ true) where
  -- the first packet's payload, and then what the others wrote
  first_written : (t : Handled) (rest : Successive) (reply : List ℕ) → t.told.length ≡ length t.payload
      → length t.payload ≤ slot → slot ≤ length reply
      → written_in (t.told ∷ rest.told) (front t.payload (take slot reply) ++ rest.reply)
      ≡ t.payload ++ written_in rest.told rest.reply
  unfolding written_in
  first_written t rest reply long short room =
      let whole = length-take-le slot reply room in
      let filled = front_length t.payload (take slot reply) (omega arith) ∙ whole in
      let written = front t.payload (take slot reply) in
      ap₂ (λ (s r : List ℕ). take t.told.length s ++ written_in rest.told r)
      (take_at written rest.reply slot filled) (drop_at written rest.reply slot filled)
      ∙ ap (λ (l : List ℕ). l ++ written_in rest.told rest.reply) (payload_read 0 t [] [] [] long (take slot reply))

  successive_alike : (ps : List (List ℕ)) (saved reply reply' : List ℕ) → saved_right (book_of b) saved ≡ true
      → length reply ≡ length reply' → slot * length ps ≤ length reply
      → SuccessiveAlike (successive b size saved ps reply) (successive b size saved ps reply')
  unfolding successive and_then written_in
  successive_alike [] saved reply reply' right same room = record { told = refl; saved = refl; written = refl }
  successive_alike (p ∷ ps) saved reply reply' right same room =
      let c = connection_in (length (book_of b)) saved in
      let t = takes (book_of b) size c p in
      let next = store t.connection saved in
      let whole = length-take-le slot reply (omega arith) in
      let whole' = length-take-le slot reply' (omega arith) in
      let less = length-drop slot reply in
      let less' = length-drop slot reply' in
      let come = comes b size ok sized saved p (take slot reply) right (omega arith) in
      let come' = comes b size ok sized saved p (take slot reply') right (omega arith) in
      let right' = subst (λ (a : Answered). saved_right (book_of b) a.saved ≡ true) come
      (next_right b size ok sized saved p (take slot reply) right (omega arith)) in
      let rest = successive_alike ps next (drop slot reply) (drop slot reply') right' (omega arith) (omega arith) in
      let all = successive b size next ps (drop slot reply) in
      let all' = successive b size next ps (drop slot reply') in
      let long = takes_length (book_of b) size c p in
      let short = reply_short (book_of b) size c p (right_book b ok) (right_legal (book_of b) saved right) in
      subst₂ SuccessiveAlike (sym (successive_first b size saved p ps reply _ come))
      (sym (successive_first b size saved p ps reply' _ come'))
      (record {
        told = ap (λ (l : List Told). t.told ∷ l) rest.told;
        saved = rest.saved;
        written =
            first_written t all reply long short (omega arith)
            ∙ ap (λ (l : List ℕ). t.payload ++ l) rest.written
            ∙ sym (first_written t all' reply' long short (omega arith));
      })

record BurstAlike (a a' : BurstAnswered) : Type 0 where
  answer : compared (told_each a.burst a.reply) ≡ compared (told_each a'.burst a'.reply)
  saved : a.saved ≡ a'.saved

taken_alike : (a a' : Successive) → SuccessiveAlike a a'
    → BurstAlike (record { burst = record { number = 0; told = filled a.told }; saved = a.saved; reply = a.reply })
    (record { burst = record { number = 0; told = filled a'.told }; saved = a'.saved; reply = a'.reply })
unfolding compared
taken_alike a a' same =
    record {
      answer =
          ap₂ (λ (l : List Told) (w : List ℕ). told_each (record { number = 0; told = filled l }) w) same.told
          (filled_written a.told a.reply ∙ same.written ∙ sym (filled_written a'.told a'.reply));
      saved = same.saved;
    }

refused_alike : (n : ℕ) (saved reply reply' : List ℕ)
    → BurstAlike (record { burst = none_told n; saved = saved; reply = reply })
    (record { burst = none_told n; saved = saved; reply = reply' })
unfolding compared none_told written_in
refused_alike n saved reply reply' =
    record {
      answer = ap (told_each (none_told n)) (filled_written [] reply ∙ sym (filled_written [] reply'));
      saved = refl;
    }

module _ (b : List ℕ) (size : ℕ) (saved octets lengths reply reply' : List ℕ) (same : length reply ≡ length reply') where
  burst_refusal_alike : burst_refusal b size saved lengths reply ≡ burst_refusal b size saved lengths reply'
  unfolding burst_refusal
  burst_refusal_alike = rw same

  burst_alike : Told? (eqb (burst_refusal b size saved lengths reply) 0)
      → BurstAlike (burst_call b size saved octets lengths reply) (burst_call b size saved octets lengths reply')
  unfolding burst_call burst_taken
  burst_alike (passed t) =
      let met = burst_given b size saved lengths reply (eqb-true (burst_refusal b size saved lengths reply) 0 t) in
      let ps = packets_in octets lengths in
      rw (← burst_refusal_alike, t)
      (taken_alike (successive b size saved ps reply) (successive b size saved ps reply')
      (successive_alike b size met.given.book met.sized ps saved reply reply' met.given.right same
      (slots_fit octets lengths reply met.few met.room)))
  burst_alike (failed f) =
      rw (← burst_refusal_alike, f) (refused_alike (burst_refusal b size saved lengths reply) saved reply reply')

-- ---- cut

unfoldable cut_by : Bool → ℕ → List ℕ → List ℕ → Cut
cut_by b number written area =
    if b then record { piece = record { number = 0; length = length written }; area = front written area }
    else record { piece = record { number = number; length = 0 }; area = area }

cut_by_alike : (b : Bool) (number : ℕ) (written area area' : List ℕ)
    → compared (cut_off (cut_by b number written area)) ≡ compared (cut_off (cut_by b number written area'))
unfolding cut_by compared
cut_by_alike true number written area area' =
    ap (λ (l : List ℕ). cut_off (record { piece = record { number = 0; length = length written }; area = l }))
    (front_read written area ∙ sym (front_read written area'))
cut_by_alike false number written area area' = refl

module _ (size : ℕ) (m : Message) (k : ℕ) (area area' : List ℕ) (same : length area ≡ length area') where
  cut_refusal_alike : cut_refusal size m k area ≡ cut_refusal size m k area'
  unfolding cut_refusal
  cut_refusal_alike = rw same

  cut_alike : compared (cut_off (cut_call size m k area)) ≡ compared (cut_off (cut_call size m k area'))
  unfolding cut_call cut_by
  cut_alike =
      let n = cut_refusal size m k area' in
      rw cut_refusal_alike (cut_by_alike (eqb n 0) n (packet_at size m k) area area')

-- ---- Every call, and sequences

zeros_long : (area : List ℕ) → length area ≡ length (replicate {A = ℕ} (length area) 0)
zeros_long area = sym (length-replicate {A = ℕ} (length area) 0)

answer_cleared : (b saved : List ℕ) (c : Call) → compared (call b saved c).answer ≡ compared (call b saved (cleared c)).answer
unfolding call answered answered_each asked cleared
answer_cleared b saved check = refl
answer_cleared b saved fresh = refl
answer_cleared b saved (packet size p reply) = packet_told_alike b size saved p reply _ (zeros_long reply)
answer_cleared b saved (burst size octets lengths reply) =
    (burst_alike b size saved octets lengths reply _ (zeros_long reply)
    (whether (eqb (burst_refusal b size saved lengths reply) 0))
    ).answer
answer_cleared b saved (event e) = refl
answer_cleared b saved (settings s) = refl
answer_cleared b saved (delay s) = refl
answer_cleared b saved (status s) = refl
answer_cleared b saved (packets size n) = refl
answer_cleared b saved (cut size m k area) = cut_alike size m k area _ (zeros_long area)

saved_cleared : (b saved : List ℕ) (c : Call) → (call b saved c).saved ≡ (call b saved (cleared c)).saved
unfolding call answered answered_each asked cleared
saved_cleared b saved check = refl
saved_cleared b saved fresh = refl
saved_cleared b saved (packet size p reply) = packet_saved_alike b size saved p reply _ (zeros_long reply)
saved_cleared b saved (burst size octets lengths reply) =
    (burst_alike b size saved octets lengths reply _ (zeros_long reply)
    (whether (eqb (burst_refusal b size saved lengths reply) 0))
    ).saved
saved_cleared b saved (event e) = refl
saved_cleared b saved (settings s) = refl
saved_cleared b saved (delay s) = refl
saved_cleared b saved (status s) = refl
saved_cleared b saved (packets size n) = refl
saved_cleared b saved (cut size m k area) = refl

pub answers_cleared : (b saved : List ℕ) (calls : List Call)
    → map compared (answers b saved calls) ≡ map compared (answers b saved (map cleared calls))
unfolding answers
answers_cleared b saved [] = refl
answers_cleared b saved (c ∷ calls) =
    ap₂ ◌∷◌ (answer_cleared b saved c)
    (answers_cleared b (call b saved c).saved calls
    ∙ ap (λ (s : List ℕ). map compared (answers b s (map cleared calls))) (saved_cleared b saved c))

pub after_cleared : (b saved : List ℕ) (calls : List Call) → after b saved calls ≡ after b saved (map cleared calls)
unfolding after
after_cleared b saved [] = refl
after_cleared b saved (c ∷ calls) =
    after_cleared b (call b saved c).saved calls
    ∙ ap (λ (s : List ℕ). after b s (map cleared calls)) (saved_cleared b saved c)

pub restrained_cleared : (g : Option Gathering) (calls : List Call) → restrained g (map cleared calls) ≡ restrained g calls
unfolding restrained cleared
restrained_cleared g [] = refl
restrained_cleared g (check ∷ calls) = restrained_cleared g calls
restrained_cleared g (fresh ∷ calls) = restrained_cleared none calls
restrained_cleared g (packet size p reply ∷ calls) =
    let s = gather size g p in
    rw (length-replicate {A = ℕ} (length reply) 0, restrained_cleared s.gathering calls, restrained_cleared g calls)
restrained_cleared g (burst size octets lengths reply ∷ calls) =
    let all = gather_all size g (packets_in octets lengths) in
    rw (length-replicate {A = ℕ} (length reply) 0, restrained_cleared all.gathering calls, restrained_cleared g calls)
restrained_cleared g (event e ∷ calls) = restrained_cleared (after_event g e) calls
restrained_cleared g (settings s ∷ calls) = restrained_cleared g calls
restrained_cleared g (delay s ∷ calls) = restrained_cleared g calls
restrained_cleared g (status s ∷ calls) = restrained_cleared g calls
restrained_cleared g (packets size n ∷ calls) = restrained_cleared g calls
restrained_cleared g (cut size m k area ∷ calls) = restrained_cleared g calls
