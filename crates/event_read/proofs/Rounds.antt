-- An event's loop: the rounds of a run (field_read's Round), with runs put off, and behind all of them the turns that are left and 38.
-- In order: what the loop is given and keeps; how it begins; a turn; runs put off; how it ends.
use Rattle.std.specs.Prelude.{Ok, Err}
use mathlib.Core.Path.{◌≡◌, refl, sym}
use mathlib.Core.List.{List}
use mathlib.Core.Bool.{Bool, true, false}
use Prim.Native.Nat.{ℕ, ◌+◌, ◌-◌, ◌≤◌, ◌<◌}
use native.Mathlib.Omega.{arith}
use lib.ListN.{length, get_or, set, length-set}
use borrow.Author.Tests.{ltb-true}
use Rattle.rules.specs.declared.Stop.{Stop}
use Rattle.rules.specs.Limits.{slot_count, depth_limit, words_per_entry}
use Rattle.rules.specs.Slots.{Slots, packet_slots}
use Rattle.rules.specs.Step.{Out, Step, ◌⨾◌}
use Rattle.rules.specs.Field.{Env}
use Rattle.facts.proofs.Truth.{clash}
use Rattle.class_layout.specs.Fragments.{asked_at, stream_class_at}
use Rattle.class_layout.specs.Notes.{Notes, Prepared}
use Rattle.class_layout.specs.Sizes.{Sized}
use Rattle.frame.specs.declared.Frame.{Frame}
use Rattle.frame.specs.Framed.{env_of}
use Rattle.listing.specs.declared.Progress.{Progress}
use Rattle.listing.specs.Did.{Did, full}
use Rattle.listing.proofs.Parts.{Part, lent, merged}
use Rattle.field_runs.specs.declared.Run.{Run}
use Rattle.field_runs.specs.Run.{over}
use Rattle.field_runs.specs.Ahead.{WholeRun}
use Rattle.field_read.specs.Reads.{state_at}
use Rattle.field_read.proofs.Round.{Loop, Round, Stops}
use Rattle.field_read.proofs.Apart.{no_run, apart_from, piled, Standing, none-standing, pile-start, push-round, pop-round, pile-end}
use Rattle.outcome.specs.Ran.{EventDid, stopped_ran}
use Rattle.outcome.proofs.Parted.{Parted}
use Rattle.event_turns.specs.declared.Asking.{Asking}
use Rattle.event_turns.specs.declared.Turn.{Turn}
use Rattle.event_turns.specs.Event.{held_to}
use Rattle.event_turns.specs.Left.{header_run, turns, Gives}
use Rattle.event_turns.specs.Ready.{OfStream}
use Rattle.event_turns.specs.Turns.{turns_at, Known}
use Rattle.event_turns.proofs.Turned.{turn_of, turn-did, known-first, header-stands, header-begins, turn-next, turns-end}
use Rattle.event_turns.proofs.Turned.{turn-room, turn-same, turn-stops, turn-goes}
use Rattle.event_read.specs.Start.{start_state, runs, opens_at}
use Rattle.event_read.proofs.Evented.{moved, behind_start}

-- What an event is given
pub record Given : Type 0 where
  pub stream : List ℕ
  pub uuid : List ℕ
  pub frame : Frame
  pub table : List ℕ
  pub notes : Notes
  pub asking : Asking
  pub begun : Progress

abbrev pub env_given : Given → Env
env_given g = env_of g.stream g.uuid g.frame

-- the loop over a run at a turn: the turns that are left come behind it, and 38
abbrev pub event_loop : Given → Out → List ℕ → ℕ → ℕ → Loop
event_loop g all ws₀ class turn = record {
  stream = g.stream;
  uuid = g.uuid;
  frame = g.frame;
  depths = depth_limit;
  table = g.table;
  notes = g.notes;
  all = all;
  behind = turns_at g.table g.asking (env_given g) class turn ⨾ moved g.begun;
  list = ws₀;
}

-- what a round keeps
pub record EventRound (g : Given) (all : Out) (ws₀ : List ℕ) (class turn : ℕ) (run : Run) (pile : List Run) (off : ℕ) (ws : List ℕ)
    (used : ℕ) (st : Progress) (l : Slots) : Type 0 where
  pub early : turn ≤ turns
  pub few : off ≤ runs
  pub size : length pile ≡ runs
  pub known : Known g.table g.notes.sizes turn class
  pub standing : Standing (event_loop g all ws₀ class turn) pile off
  pub round : Round (piled (event_loop g all ws₀ class turn) pile off) run ws used st l

module _ {g : Given} {all : Out} {ws₀ : List ℕ} {class turn : ℕ} {run : Run} {pile : List Run} {off : ℕ} {ws : List ℕ} {used : ℕ}
    {st : Progress} {l : Slots} (h : EventRound g all ws₀ class turn run pile off ws used st l) where
  abbrev here : Loop
  here = event_loop g all ws₀ class turn

  -- the same turn, and the same runs put off
  pub gone-on : {run' : Run} {ws' : List ℕ} {used' : ℕ} {st' : Progress} {l' : Slots} → Round (piled here pile off) run' ws' used' st' l'
      → EventRound g all ws₀ class turn run' pile off ws' used' st' l'
  gone-on r = record {
    early = h.early;
    few = h.few;
    size = h.size;
    known = h.known;
    standing = h.standing;
    round = r;
  }

  -- a run is put off for another
  pub put-off : {rest run' : Run} {ws' : List ℕ} {used' : ℕ} {st' : Progress} {l' : Slots} → off < runs
      → WholeRun depth_limit g.table rest → Round (apart_from (piled here pile off) rest) run' ws' used' st' l'
      → EventRound g all ws₀ class turn run' (set pile off rest) (off + 1) ws' used' st' l'
  put-off {rest} some stands r =
      let q = push-round here pile off rest (omega (arith, h.size)) h.standing stands r in
      record {
        early = h.early;
        few = omega arith;
        size = rw (length-set) h.size;
        known = h.known;
        standing = q.1;
        round = q.0;
      }

  -- and comes back
  pub come-back : 0 < off → over run ≡ true → EventRound g all ws₀ class turn (get_or pile (off - 1) no_run) pile (off - 1) ws used st l
  come-back some e =
      let q = pop-round here pile off some h.standing h.round e in
      record {
        early = h.early;
        few = omega (arith, h.few);
        size = h.size;
        known = h.known;
        standing = q.1;
        round = q.0;
      }

  -- none is put off
  pub none-off : off ≡ 0 → EventRound g all ws₀ class turn run pile 0 ws used st l
  none-off e = rw e at h

pub still-none : {g : Given} {all : Out} {ws₀ : List ℕ} {class turn : ℕ} {run : Run} {pile : List Run} {off : ℕ} {ws : List ℕ} {used : ℕ}
    {st : Progress} {l : Slots} → off ≡ 0 → EventRound g all ws₀ class turn run pile 0 ws used st l
    → EventRound g all ws₀ class turn run pile off ws used st l
still-none e h = rw e h

-- What a loop has to do that lists nothing: the turns that are left, and the runs that were put off
abbrev pub steps_left : ℕ → ℕ → ℕ
steps_left turn off = (turns - turn) + off

-- where a field is opened in a run of its own, there is a place for the one that is put off
pub opens-off : (here : Bool) (off : ℕ) → opens_at here off ≡ true → here ≡ false → off < runs
unfolding opens_at
opens-off true off h e = absurd (clash (sym e))
opens-off false off h e = ltb-true off runs h

-- How it begins: behind entry 4 the run is the header's
pub begun-round : (g : Given) (m : Step) (l : Slots) (ws ws₁ : List ℕ) → OfStream g.table g.asking → Prepared g.table g.notes
    → length (packet_slots l) ≡ slot_count
    → Parted g.stream g.frame m
    (behind_start (asked_at g.table) (stream_class_at g.table g.asking.class) (env_given g) g.begun) g.begun l ws ws₁
    words_per_entry (start_state g.begun) (packet_slots l)
    → {st₁ : Progress} {l₁ : Slots} {run₁ : Run} → st₁ ≡ start_state g.begun → l₁ ≡ packet_slots l → run₁ ≡ header_run g.asking
    → (pile : List Run) → length pile ≡ runs
    → EventRound g (m (full g.begun l (length ws))) ws 0 1 run₁ pile 0 ws₁ words_per_entry
    (state_at g.begun.place g.begun.order st₁) l₁
unfolding behind_start
begun-round g m l ws ws₁ of noted many p is_state is-slots is-run pile size =
    let all = m (full g.begun l (length ws)) in
    let loop = event_loop g all ws 0 1 in
    let begins = header-begins g.table g.asking (env_given g) 0 (moved g.begun) of in
    rw (is_state, is-slots, is-run) record {
      early = omega arith;
      few = omega arith;
      size = size;
      known = known-first g.table g.notes.sizes 0;
      standing = none-standing loop pile;
      round = pile-start pile record {
        stands = header-stands g.table g.asking of;
        noted = noted;
        framed = p.framed;
        many = many;
        part = rw begins at p.part;
      };
    }

-- What stopped hands on no slots
pub event-stopped : (m : Step) (came : Progress) (l : Slots) {ws₀ ws : List ℕ} {v : Stop} {n : ℕ}
    → Did (m (full came l (length ws₀))) came (Err v) n came l ws₀ ws → EventDid m came l (stopped_ran v n came) ws₀ ws
event-stopped m came l did = record { slots = l; kept = refl; did = did }

-- A turn
pub record TurnRound (g : Given) (all : Out) (ws₀ : List ℕ) (class turn : ℕ) (pile : List Run) (ws : List ℕ) (used : ℕ) (st : Progress)
    (l : Slots) (r : Turn) (ys : List ℕ) : Type 0 where
  pub room : used + r.used ≤ length ws₀
  pub same : length (merged used ws ys) ≡ length ws₀
  pub rises : r.went ≡ Ok tt → (turn < r.turn) × (r.turn ≤ turns)
  pub stops : (v : Stop) → r.went ≡ Err v → Stops (event_loop g all ws₀ class turn) v (used + r.used) (merged used ws ys)
  pub goes : r.went ≡ Ok tt → EventRound g all ws₀ r.class r.turn r.run pile 0 (merged used ws ys) (used + r.used)
      (held_to r.last st) l

pub turn-round : {g : Given} {all : Out} {ws₀ : List ℕ} {class turn : ℕ} {run : Run} {pile : List Run} {ws : List ℕ} {used : ℕ}
    {st : Progress} {l : Slots} → EventRound g all ws₀ class turn run pile 0 ws used st l → Sized g.table g.notes.sizes
    → OfStream g.table g.asking → over run ≡ true → turn < turns → {r : Turn} {ys : List ℕ}
    → Gives (turn_of g.table g.asking turn class st (length (lent used ws))) r (lent used ws) ys
    → TurnRound g all ws₀ class turn pile ws used st l r ys
turn-round {g} {all} {ws₀} {class} {turn} {run} {pile} {ws} {used} {st} {l} h sized of done left {r} {ys} gave =
    let t = g.table in
    let s = g.notes.sizes in
    let w = g.asking in
    let e = env_given g in
    let m = moved g.begun in
    let round = pile-end pile h.round in
    let p : Part all (turns_at t w e class turn ⨾ m) ws₀ ws used st l = rw (turn-next t w e class m run turn done) at round.part in
    let d = turn-did t s w sized of class st l e (lent used ws) turn h.known r ys gave in
    record {
      room = turn-room t s w e turn class m p d;
      same = turn-same t s w e turn class m p d;
      rises = λ on. d.rises on left;
      stops = λ v off. turn-stops t s w e turn class m p d v off;
      goes = λ on. record {
        early = (d.rises on left).1;
        few = omega arith;
        size = h.size;
        known = d.known on;
        standing = none-standing (event_loop g all ws₀ r.class r.turn) pile;
        round = pile-start pile record {
          stands = d.stands on;
          noted = h.round.noted;
          framed = h.round.framed;
          many = h.round.many;
          part = turn-goes t s w e turn class m p d on;
        };
      };
    }

-- How it ends: 38 is left
pub round-ends : {g : Given} {all : Out} {ws₀ : List ℕ} {class turn : ℕ} {run : Run} {pile : List Run} {ws : List ℕ} {used : ℕ}
    {st : Progress} {l : Slots} → EventRound g all ws₀ class turn run pile 0 ws used st l → over run ≡ true → turns ≤ turn
    → Part all (moved g.begun) ws₀ ws used st l
round-ends {g} {class = class} {turn = turn} {run = run} {pile = pile} h done none =
    rw (turns-end g.table g.asking (env_given g) class (moved g.begun) run turn done none) at (pile-end pile h.round).part
