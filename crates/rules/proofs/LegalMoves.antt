-- Each move of one endpoint that a command or an event makes leaves it legal: its SEID stays, and the new state's channel and the
-- settings are looked up in the old endpoint's legality.
use Prim.Native.Nat.{ℕ, ◌≤◌}
use native.Mathlib.Omega.{arith}
use mathlib.Core.Path.{◌≡◌, refl, sym}
use mathlib.Core.List.{List}
use mathlib.Core.Bool.{true, false, not, ◌&&◌}
use lib.Dec.{eqb}
use Rattle.rules.specs.Octets.{is_empty}
use Rattle.rules.specs.Elements.{items, has, could_store}
use Rattle.rules.specs.Book.{Entry}
use Rattle.rules.specs.Endpoints.{Endpoint, idle, is_absent, is_awaited, is_up, is_idle, is_reported, channel_right, takes_delay}
use Rattle.rules.specs.Endpoints.{delay_right, far_right, keeps_nothing, keeps_settings, legal_end, in_state, with_channel}
use Rattle.rules.specs.Endpoints.{with_delay, with_config, forgotten, leaving, moved_by, opened}
use Rattle.rules.specs.Commands.{is_configured, is_open, is_streaming, is_set, settled}
use Rattle.rules.specs.declared.OurSeid.{OurSeid}
use Rattle.rules.specs.declared.FarSeid.{FarSeid}
use Rattle.rules.specs.declared.State.{State}
use Rattle.rules.specs.declared.State.TheVariants.{Idle, Configured, Open, Streaming, Closing, Aborting}
use Rattle.rules.specs.declared.Channel.{Channel}
use Rattle.rules.specs.declared.Channel.TheVariants.{Absent, Awaited, Up}
use Rattle.rules.specs.Delays.{Delay}
use Rattle.rules.proofs.Tests.{clash, and_l, and_r, or_l, or_r}
use Rattle.rules.proofs.Places.{awaits}
use Rattle.rules.proofs.Outcomes.{if_arms}

-- ---- Legality taken apart and put together

module _ (n : Entry) (e : Endpoint) (h : legal_end n e ≡ true) where
  pub legal_named : eqb e.head.seid.0 n.seid.0 ≡ true
  unfolding legal_end
  legal_named = search (and_l, and_r)

  pub legal_channel : channel_right e.head.state e.head.channel ≡ true
  unfolding legal_end
  legal_channel = search (and_l, and_r)

  pub idle_keeps : is_idle e.head.state ≡ true → keeps_nothing e ≡ true
  unfolding legal_end
  idle_keeps i = rw i at (and_r (eqb e.head.seid.0 n.seid.0 && channel_right e.head.state e.head.channel) _ h)

  pub busy_keeps : is_idle e.head.state ≡ false → keeps_settings n e ≡ true
  unfolding legal_end
  busy_keeps i = rw i at (and_r (eqb e.head.seid.0 n.seid.0 && channel_right e.head.state e.head.channel) _ h)

pub busy_legal : (n : Entry) (e : Endpoint) → eqb e.head.seid.0 n.seid.0 ≡ true
    → channel_right e.head.state e.head.channel ≡ true → is_idle e.head.state ≡ false
    → keeps_settings n e ≡ true → legal_end n e ≡ true
unfolding legal_end
busy_legal n e s c i k = rw (s, c, i, k)

pub idle_legal : (n : Entry) (s : OurSeid) → eqb s.0 n.seid.0 ≡ true → legal_end n (idle s) ≡ true
unfolding legal_end idle channel_right is_absent is_idle keeps_nothing is_empty is_reported
idle_legal n s h = rw h

pub keeps_all : (n : Entry) (e : Endpoint) → far_right e.head.far ≡ true → could_store (items n.caps) e.config ≡ true
    → delay_right n e ≡ true → keeps_settings n e ≡ true
unfolding keeps_settings
keeps_all n e f c d = rw (f, c, d)

module _ (n : Entry) (e : Endpoint) (h : keeps_settings n e ≡ true) where
  pub keeps_far : far_right e.head.far ≡ true
  unfolding keeps_settings
  keeps_far = search (and_l, and_r)

  pub keeps_config : could_store (items n.caps) e.config ≡ true
  unfolding keeps_settings
  keeps_config = search (and_l, and_r)

  pub keeps_delay : delay_right n e ≡ true
  unfolding keeps_settings
  keeps_delay = search (and_l, and_r)

-- ---- What the tests of states and channels say

pub set_busy : (s : State) → is_set s ≡ true → is_idle s ≡ false
unfolding is_set is_configured is_open is_streaming is_idle
set_busy Idle h = sym h
set_busy Configured h = refl
set_busy Open h = refl
set_busy Streaming h = refl
set_busy Closing h = refl
set_busy Aborting h = refl

pub configured_busy : (s : State) → is_configured s ≡ true → is_idle s ≡ false
unfolding is_set
configured_busy s h = set_busy s (or_l _ (is_streaming s) (or_l (is_configured s) (is_open s) h))

pub open_busy : (s : State) → is_open s ≡ true → is_idle s ≡ false
unfolding is_set
open_busy s h = set_busy s (or_l _ (is_streaming s) (or_r (is_configured s) (is_open s) h))

pub streaming_is : (s : State) → is_streaming s ≡ true → s ≡ Streaming
unfolding is_streaming
streaming_is Idle h = clash h refl
streaming_is Configured h = clash h refl
streaming_is Open h = clash h refl
streaming_is Streaming h = refl
streaming_is Closing h = clash h refl
streaming_is Aborting h = clash h refl

up_is : (c : Channel) → is_up c ≡ true → c ≡ Up
unfolding is_up
up_is Absent h = clash h refl
up_is Awaited h = clash h refl
up_is Up h = refl

awaited_is : (c : Channel) → is_awaited c ≡ true → c ≡ Awaited
unfolding is_awaited
awaited_is Absent h = clash h refl
awaited_is Awaited h = refl
awaited_is Up h = clash h refl

-- an idle endpoint has no channel, so one with a channel is not idle
up_busy : (s : State) → channel_right s Up ≡ true → is_idle s ≡ false
unfolding channel_right is_absent is_up is_idle
up_busy Idle h = sym h
up_busy Configured h = refl
up_busy Open h = refl
up_busy Streaming h = refl
up_busy Closing h = refl
up_busy Aborting h = refl

-- only an open endpoint awaits a channel, and it may have one
awaited_up : (s : State) → channel_right s Awaited ≡ true → channel_right s Up ≡ true
unfolding channel_right is_absent is_up
awaited_up Idle h = h
awaited_up Configured h = h
awaited_up Open h = refl
awaited_up Streaming h = refl
awaited_up Closing h = refl
awaited_up Aborting h = refl

-- ---- The moves

module _ (n : Entry) (e : Endpoint) (h : legal_end n e ≡ true) where
  pub forgotten_legal : legal_end n (forgotten e) ≡ true
  unfolding forgotten
  forgotten_legal = idle_legal n e.head.seid (legal_named n e h)

  -- to a state that the channel is right for
  pub in_state_legal : (s : State) → is_idle e.head.state ≡ false → is_idle s ≡ false → channel_right s e.head.channel ≡ true
      → legal_end n (moved_by (in_state s) e) ≡ true
  unfolding moved_by keeps_settings delay_right takes_delay
  in_state_legal s i j c = busy_legal n (moved_by (in_state s) e) (legal_named n e h) c j (busy_keeps n e h i)

  pub opened_legal : is_configured e.head.state ≡ true → legal_end n (moved_by opened e) ≡ true
  unfolding moved_by channel_right is_absent is_idle keeps_settings delay_right takes_delay
  opened_legal i =
      busy_legal n (moved_by opened e) (legal_named n e h) refl refl
      (busy_keeps n e h (configured_busy e.head.state i))

  -- to closing or aborting with a channel, to idle without one
  pub leaving_legal : (s : State) → is_idle s ≡ false → channel_right s Up ≡ true → legal_end n (leaving s e) ≡ true
  unfolding leaving
  leaving_legal s i c =
      if_arms (λ e'. legal_end n e' ≡ true) (is_up e.head.channel) (moved_by (in_state s) e) (forgotten e)
      (λ u.
      let up = up_is e.head.channel u in
      in_state_legal s (up_busy e.head.state (rw up at (legal_channel n e h))) i (rw up c))
      (λ f. forgotten_legal)

  pub started_legal : is_open e.head.state ≡ true → is_up e.head.channel ≡ true
      → legal_end n (moved_by (in_state Streaming) e) ≡ true
  unfolding channel_right is_idle
  started_legal i u = in_state_legal Streaming (open_busy e.head.state i) refl u

  pub suspended_legal : is_streaming e.head.state ≡ true → legal_end n (moved_by (in_state Open) e) ≡ true
  unfolding channel_right is_idle is_absent
  suspended_legal i =
      let streaming = streaming_is e.head.state i in
      let up = up_is e.head.channel (rw streaming at (legal_channel n e h)) in
      in_state_legal Open (rw streaming refl) refl (rw up refl)

  pub with_delay_legal : (d : Delay) → is_set e.head.state ≡ true → takes_delay n e ≡ true
      → legal_end n (moved_by (with_delay d) e) ≡ true
  unfolding moved_by delay_right takes_delay
  with_delay_legal d i t =
      let busy = set_busy e.head.state i in
      let kept = busy_keeps n e h busy in
      busy_legal n (moved_by (with_delay d) e) (legal_named n e h) (legal_channel n e h) busy
      (keeps_all n (moved_by (with_delay d) e) (keeps_far n e kept) (keeps_config n e kept) (or_r (not (is_reported d)) _ t))

  pub with_config_legal : (l : List ℕ) → is_idle e.head.state ≡ false → could_store (items n.caps) l ≡ true
      → has 8 (items l) ≡ has 8 (items e.config) → legal_end n (with_config l e) ≡ true
  unfolding with_config delay_right takes_delay
  with_config_legal l busy could eight =
      let kept = busy_keeps n e h busy in
      busy_legal n (with_config l e) (legal_named n e h) (legal_channel n e h) busy
      (keeps_all n (with_config l e) (keeps_far n e kept) could (rw eight (keeps_delay n e kept)))

  pub settled_legal : (far : FarSeid) (l : List ℕ) → far_right far ≡ true → could_store (items n.caps) l ≡ true
      → legal_end n (settled e far l) ≡ true
  unfolding settled channel_right is_absent is_idle delay_right is_reported
  settled_legal far l f could =
      busy_legal n (settled e far l) (legal_named n e h) refl refl (keeps_all n (settled e far l) f could refl)

  pub came_up_legal : is_awaited e.head.channel ≡ true → legal_end n (moved_by (with_channel Up) e) ≡ true
  unfolding moved_by keeps_settings delay_right takes_delay
  came_up_legal a =
      let up = awaited_up e.head.state (rw (awaited_is e.head.channel a) at (legal_channel n e h)) in
      let busy = up_busy e.head.state up in
      busy_legal n (moved_by (with_channel Up) e) (legal_named n e h) up busy (busy_keeps n e h busy)

-- an endpoint that leaves awaits no channel that it did not await before
pub leaving_awaits : (s : State) (e : Endpoint) → awaits (leaving s e) ≤ awaits e
unfolding leaving awaits moved_by forgotten idle is_awaited
leaving_awaits s e =
    if_arms (λ e'. awaits e' ≤ awaits e) (is_up e.head.channel) (moved_by (in_state s) e) (forgotten e) (λ u. omega arith)
    (λ f. omega arith)
