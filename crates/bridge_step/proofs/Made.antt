-- Each arm of `step`: the contract of the call that it makes, put in the place of the call in the step of a sequence.
use Prim.Native.Nat.{ℕ}
use mathlib.Core.Path.{◌≡◌, sym, ap, ap₂, ◌∙◌}
use mathlib.Core.List.{List}
use lib.ListN.{length}
use Rattle.rules.specs.Octets.{front}
use Rattle.rules.specs.Host.{check_call, Kept, Answered, settings_call, status_call, packets_call, Cut, delay_call}
use Rattle.rules.specs.Bursts.{BurstAnswered}
use Rattle.rules.specs.Sessions.{keeping, answered, answered_each, asked, call}
use Rattle.rules.specs.declared.OurSeid.{OurSeid}
use Rattle.rules.specs.declared.Event.{Event}
use Rattle.rules.specs.declared.Piece.{Piece}
use Rattle.rules.specs.declared.Standing.{Standing}
use Rattle.rules.specs.declared.Header.{Header}
use Rattle.rules.specs.declared.Heard.{Heard}
use Rattle.rules.specs.declared.Told.{Told}
use Rattle.rules.specs.declared.Burst.{Burst}
use Rattle.octets.specs.Patch.{patch}
use Rattle.octets.proofs.Patches.{front_patch}
use Rattle.rules.specs.Calls.{Freshens, Takes, TakesAll, Happens, Cuts}
use Rattle.bridge_step.specs.declared.Call.{Call}
use Rattle.bridge_step.specs.declared.Answer.TheVariants.{Number, Told as ToldIt, Shown, Heard as HeardIt, Stands, Counted}
use Rattle.bridge_step.specs.declared.Answer.TheVariants.{CutOff, Burst as BurstIt}
use Rattle.bridge_step.specs.Steps.{call_by, answer_in, area_after, room_after, exit_of, Steps, Copied, copied_of}

module _ (book saved : List ℕ) (k : Call) (input lengths area room : List ℕ) where
  pub checks : k ≡ Call.Check → (n : ℕ) → n ≡ check_call book
      → Steps book saved k input lengths area room (Number n) saved area room
  unfolding exit_of call_by call asked answer_in area_after room_after
  checks is n e = rw is (ap (λ (x : ℕ). record { answer = Number x; saved = saved; area = area; room = room }) e)

  pub freshens : k ≡ Call.Fresh → (n done : ℕ) (next : List ℕ) → n ≡ done → Freshens book saved done next
      → Steps book saved k input lengths area room (Number n) next area room
  unfolding exit_of call_by call keeping answer_in area_after room_after
  freshens is n done next same e =
      rw (is, same) (ap (λ (x : Kept). record { answer = Number x.number; saved = x.saved; area = area; room = room }) e)

  pub takes : (size : ℕ) → k ≡ Call.Packet size → (t : Told) (next reply : List ℕ)
      → Takes book size saved input area t next reply
      → Steps book saved k input lengths area room (ToldIt t) next reply room
  unfolding exit_of call_by call answered answer_in area_after room_after
  takes size is t next reply e =
      rw is (ap (λ (a : Answered). record { answer = ToldIt a.told; saved = a.saved; area = a.reply; room = room }) e)

  pub takes_all : (size : ℕ) → k ≡ Call.Burst size → (b : Burst) (next reply : List ℕ)
      → TakesAll book size saved input lengths area b next reply
      → Steps book saved k input lengths area room (BurstIt b) next reply room
  unfolding exit_of call_by call answered_each answer_in area_after room_after
  takes_all size is b next reply e =
      rw is (ap (λ (a : BurstAnswered). record { answer = BurstIt a.burst; saved = a.saved; area = a.reply; room = room }) e)

  pub happens : (v : Event) → k ≡ Call.Event v → (n done : ℕ) (next : List ℕ) → n ≡ done → Happens book saved v done next
      → Steps book saved k input lengths area room (Number n) next area room
  unfolding exit_of call_by call keeping answer_in area_after room_after
  happens v is n done next same e =
      rw (is, same) (ap (λ (x : Kept). record { answer = Number x.number; saved = x.saved; area = area; room = room }) e)

  pub shows : (s : OurSeid) → k ≡ Call.Settings s → (n size : ℕ) (room' : List ℕ) → n ≡ (settings_call book saved s).number
      → ◌≡◌ {A = Copied} (record { length = size; room = room' }) (copied_of book saved s room)
      → Steps book saved k input lengths area room (Shown n size) saved area room'
  unfolding exit_of call_by call asked answer_in area_after room_after copied_of
  shows s is n size room' e copied =
      rw is
      (ap₂
      (λ (y : ℕ) (x : Copied). record { answer = Shown y x.length; saved = saved; area = area; room = x.room })
      e copied)

  pub stands : (s : OurSeid) → k ≡ Call.Status s → (t : Standing) → t ≡ status_call book saved s
      → Steps book saved k input lengths area room (Stands t) saved area room
  unfolding exit_of call_by call asked answer_in area_after room_after
  stands s is t e = rw is (ap (λ (x : Standing). record { answer = Stands x; saved = saved; area = area; room = room }) e)

  pub hears : (s : OurSeid) → k ≡ Call.Delay s → (h : Heard) → h ≡ delay_call book saved s
      → Steps book saved k input lengths area room (HeardIt h) saved area room
  unfolding exit_of call_by call asked answer_in area_after room_after
  hears s is h e =
      rw is (ap (λ (x : Heard). record { answer = HeardIt x; saved = saved; area = area; room = room }) e)

  pub counts : (size n : ℕ) → k ≡ Call.Packets size n → (many : ℕ) → many ≡ packets_call size n
      → Steps book saved k input lengths area room (Counted many) saved area room
  unfolding exit_of call_by call asked answer_in area_after room_after
  counts size n is many e =
      rw is (ap (λ (x : ℕ). record { answer = Counted x; saved = saved; area = area; room = room }) e)

  pub cuts : (size : ℕ) (h : Header) (index : ℕ) → k ≡ Call.Cut size h index → (piece : Piece) (area' : List ℕ)
      → Cuts size h.label h.mtype h.signal input index area piece area'
      → Steps book saved k input lengths area room (CutOff piece) saved area' room
  unfolding exit_of call_by call asked answer_in area_after room_after
  cuts size h index is piece area' e =
      rw is (ap (λ (x : Cut). record { answer = CutOff x.piece; saved = saved; area = x.area; room = room }) e)

-- the part that `settings` shows, copied to the front of the room
pub copies : (book saved : List ℕ) (s : OurSeid) (part room room' : List ℕ) → part ≡ (settings_call book saved s).part
    → room' ≡ patch 0 part room
    → ◌≡◌ {A = Copied} (record { length = length part; room = room' }) (copied_of book saved s room)
unfolding copied_of
copies book saved s part room room' shown put =
    ap (λ (l : List ℕ). record { length = length part; room = l }) (put ∙ sym (front_patch part room))
    ∙ ap (λ (l : List ℕ). record { length = length l; room = front l room }) shown
