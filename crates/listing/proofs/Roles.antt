-- What each role does, and that the code's answers are the rules'.
use Rattle.std.specs.Prelude.{Option, None, Some, Ok, Err}
use Prim.Native.Nat.{ℕ, ◌-◌, ◌<◌, ◌≤◌}
use native.Mathlib.Omega.{arith}
use mathlib.Core.Path.{◌≡◌, refl, ap, ◌∙◌}
use mathlib.Core.List.{List, [], ◌∷◌, ◌++◌}
use mathlib.Core.Logic.{⊎_elim}
use mathlib.Core.Bool.{Bool, true, false}
use lib.Dec.{eqb}
use lib.ListN.{length, drop, get_or-eq_default}
use borrow.Author.Tests.{lt-ltb, le-ltb}
use Rattle.rules.specs.declared.Entry.{Entry}
use Rattle.rules.specs.declared.Stop.{Stop}
use Rattle.rules.specs.declared.Refusal.TheVariants.{WrongMagic, ListFull, ClockTooLarge}
use Rattle.rules.specs.Limits.{magic_number, words_per_entry}
use Rattle.rules.specs.Class.{no_role, magic, stream_class_id, total_length, content_length, clock, end_clock, event_class_id}
use Rattle.rules.specs.Clock.{clock_after}
use Rattle.rules.specs.Slots.{Slots}
use Rattle.rules.specs.Entry.{words}
use Rattle.rules.specs.Faults.{roles, role_of}
use Rattle.rules.specs.Step.{Out, stop, go, Step, onto, after, ◌⨾◌, pass, refuse, listed, change, with_clock, with_said}
use Rattle.rules.specs.Field.{role, new_clock, say}
use Rattle.facts.proofs.Numbers.{lt-or-ge}
use Rattle.facts.proofs.Cases.{◌▷◌, below}
use Rattle.clock.specs.declared.Clock.{Clock}
use Rattle.clock.specs.Ticked.{ticked_of}
use Rattle.listing.specs.declared.Progress.{Progress}
use Rattle.listing.specs.declared.role.Advanced.{Advanced}
use Rattle.listing.specs.Did.{Did, full, out_of, RoleDid}
use Rattle.listing.specs.Roled.{on_done, said_done, stopped_done, magic_done, with_stream, with_total, with_content, with_ending, with_event}
use Rattle.listing.specs.Roled.{ticked_state, held_at, stepped_to, advanced_by, list_advanced, advanced_role}
use Rattle.listing.proofs.Checks.{check-stops, check-goes, room-first, no-room-first}

-- The clock by numbers: by the room, and by what the new one is

pub advanced-full : (w v : ℕ) (c : Clock) (room : ℕ) → room < words_per_entry → advanced_by w v c room ≡ held_at ListFull c
unfolding advanced_by
advanced-full w v c room h = rw (lt-ltb _ _ h, advanced_by) refl

pub advanced-room : (w v : ℕ) (c : Clock) (room : ℕ) → words_per_entry ≤ room
    → advanced_by w v c room ≡ stepped_to (clock_after c.value w v) c
unfolding advanced_by
advanced-room w v c room h = rw (le-ltb _ _ h, advanced_by) refl

pub stepped-too-large : (x : Option ℕ) (c : Clock) → ticked_of x ≡ None → stepped_to x c ≡ held_at ClockTooLarge c
unfolding ticked_of stepped_to
stepped-too-large None c e = refl
stepped-too-large (Some n) c e = let z : ◌≡◌ {A = ℕ} 0 1 = cc in absurd (omega arith)

pub stepped-on : (x : Option ℕ) (c next : Clock) → ticked_of x ≡ Some next
    → stepped_to x c ≡ record { on = true; why = ClockTooLarge; clock = next }
unfolding ticked_of stepped_to
stepped-on None c next e = let z : ◌≡◌ {A = ℕ} 0 1 = cc in absurd (omega arith)
stepped-on (Some n) c next e = let same : record { value = n } ≡ next = cc in rw (← same) refl

-- Three ways of a step

-- it goes on and lists nothing
pub went_on : (o : Out) (came st : Progress) (l : Slots) (ws : List ℕ) → o ≡ go [] (full st l (length ws)) → Did o came (Ok tt) 0 st l ws ws
unfolding out_of words
went_on o came st l ws e =
    let all : length ws - 0 ≡ length ws = omega arith in
    record { listed = []; out = rw (all) e; counted = refl; list = refl; room = omega arith; kept = λ v h. let z : ◌≡◌ {A = ℕ} 0 1 = cc in absurd (omega arith) }

-- it stops and lists nothing
pub went-no-further : (o : Out) (came : Progress) (l : Slots) (v : Stop) (ws : List ℕ) → o ≡ stop [] v → Did o came (Err v) 0 came l ws ws
unfolding out_of words
went-no-further o came l v ws e = record { listed = []; out = e; counted = refl; list = refl; room = omega arith; kept = λ w h. refl }

-- it lists one entry and goes on
pub went-listing : (o : Out) (came st : Progress) (l : Slots) (x : Entry) (ws ws' : List ℕ)
    → o ≡ go (x ∷ []) (full st l (length ws - words_per_entry)) → ws' ≡ words (x ∷ []) ++ drop words_per_entry ws → words_per_entry ≤ length ws
    → Did o came (Ok tt) words_per_entry st l ws ws'
unfolding out_of
went-listing o came st l x ws ws' e w h =
    record { listed = x ∷ []; out = e; counted = refl; list = w; room = h; kept = λ v h. let z : ◌≡◌ {A = ℕ} 0 1 = cc in absurd (omega arith) }

module _ (w v : ℕ) (st : Progress) (ws : List ℕ) where
  pub magic-did : RoleDid (role magic w v) st (magic_done v st) ws ws
  unfolding role magic_done refuse
  magic-did = by (eqb v magic_number) refl
    where
      by : (t : Bool) → eqb v magic_number ≡ t → RoleDid (role magic w v) st (magic_done v st) ws ws
      by true e = rw (e, magic_done) (record { at = λ l. went_on _ st st l ws (check-goes _ WrongMagic _ refl) })
      by false e = rw (e, magic_done) (record { at = λ l. went-no-further _ st l _ ws (check-stops _ WrongMagic _ refl) })

  pub stream-did : RoleDid (role stream_class_id w v) st (said_done st (with_stream v st.said)) ws ws
  unfolding role say change with_said
  stream-did = record { at = λ l. went_on _ st _ l ws refl }

  pub total-did : RoleDid (role total_length w v) st (said_done st (with_total v st.said)) ws ws
  unfolding role say change with_said
  total-did = record { at = λ l. went_on _ st _ l ws refl }

  pub content-did : RoleDid (role content_length w v) st (said_done st (with_content v st.said)) ws ws
  unfolding role say change with_said
  content-did = record { at = λ l. went_on _ st _ l ws refl }

  pub ending-did : RoleDid (role end_clock w v) st (said_done st (with_ending v st.said)) ws ws
  unfolding role say change with_said
  ending-did = record { at = λ l. went_on _ st _ l ws refl }

  pub event-did : RoleDid (role event_class_id w v) st (said_done st (with_event v st.said)) ws ws
  unfolding role say change with_said
  event-did = record { at = λ l. went_on _ st _ l ws refl }

  -- the roles that neither say nor test anything
  abbrev Silent : ℕ → Type 0
  Silent r = (r ≡ 1 → ⊥) → (r ≡ 2 → ⊥) → (r ≡ 5 → ⊥) → (r ≡ 6 → ⊥) → (r ≡ 7 → ⊥) → (r ≡ 8 → ⊥) → (r ≡ 11 → ⊥)
      → RoleDid (role (role_of r) w v) st (on_done st) ws ws

  passes : (m : Step) → m ≡ pass → RoleDid m st (on_done st) ws ws
  unfolding pass
  passes m e = rw (e) (record { at = λ l. went_on _ st st l ws refl })

  silent-listed : (r : ℕ) → r < 12 → Silent r
  unfolding role role_of roles
  silent-listed = below Silent 12
      ((λ a b c d e f g. passes _ refl)
      ▷ (λ a b c d e f g. absurd (a refl))
      ▷ (λ a b c d e f g. absurd (b refl))
      ▷ (λ a b c d e f g. passes _ refl)
      ▷ (λ a b c d e f g. passes _ refl)
      ▷ (λ a b c d e f g. absurd (c refl))
      ▷ (λ a b c d e f g. absurd (d refl))
      ▷ (λ a b c d e f g. absurd (e refl))
      ▷ (λ a b c d e f g. absurd (f refl))
      ▷ (λ a b c d e f g. passes _ refl)
      ▷ (λ a b c d e f g. passes _ refl)
      ▷ (λ a b c d e f g. absurd (g refl))
      ▷ tt)

  pub silent-did : (r : ℕ) → Silent r
  unfolding role role_of roles
  silent-did r a b c d e f g = ⊎_elim
      (λ (h : r < 12). silent-listed r h a b c d e f g)
      (λ (h : 12 ≤ r). rw (get_or-eq_default roles no_role h) (passes _ refl))
      (lt-or-ge r 12)

  -- the clock, by what the new one is

  abbrev AdvancedDid : Advanced → Type 0
  AdvancedDid a = RoleDid (role clock w v) st (advanced_role st a) ws (list_advanced st.place w a ws)

  advanced-none : length ws < words_per_entry → AdvancedDid (held_at ListFull st.clock)
  unfolding role refuse advanced_role list_advanced
  advanced-none h = record { at = λ l. went-no-further _ st l _ ws (no-room-first _ _ h) }

  after-room : (l : Slots) (x : Option ℕ) → words_per_entry ≤ length ws → clock_after st.clock.value w v ≡ x
      → role clock w v (full st l (length ws)) ≡ new_clock w x (full st l (length ws))
  unfolding role
  after-room l x h is = room-first _ _ h ∙ ap (λ y. new_clock w y (full st l (length ws))) is

  advanced-some : words_per_entry ≤ length ws → (x : Option ℕ) → clock_after st.clock.value w v ≡ x → AdvancedDid (stepped_to x st.clock)
  unfolding new_clock refuse ◌⨾◌ after onto listed change with_clock advanced_role list_advanced stepped_to
  advanced-some h None is = record { at = λ l. went-no-further _ st l _ ws (after-room l None h is) }
  advanced-some h (Some n) is = record { at = λ l. went-listing _ st _ l _ ws _ (after-room l (Some n) h is) refl h }

  pub advanced-did : AdvancedDid (advanced_by w v st.clock (length ws))
  advanced-did = ⊎_elim
      (λ (h : length ws < words_per_entry). rw (advanced-full w v st.clock (length ws) h) (advanced-none h))
      (λ (h : words_per_entry ≤ length ws). rw (advanced-room w v st.clock (length ws) h) (advanced-some h _ refl))
      (lt-or-ge (length ws) words_per_entry)

  -- the same of what the code says, by whether it advanced
  module _ (a : Advanced) (ws' : List ℕ) (e : a ≡ advanced_by w v st.clock (length ws)) (f : ws' ≡ list_advanced st.place w a ws) where
    advanced-told : RoleDid (role clock w v) st (advanced_role st a) ws ws'
    advanced-told = rw (f, e) advanced-did

    pub clock-held : a.on ≡ false → RoleDid (role clock w v) st (stopped_done a.why st) ws ws'
    unfolding advanced_role
    clock-held off = rw (off, advanced_role) at advanced-told

    pub clock-advanced : a.on ≡ true
        → RoleDid (role clock w v) st (record { went = Ok tt; used = words_per_entry; state = ticked_state st a.clock }) ws ws'
    unfolding advanced_role
    clock-advanced on = rw (on, advanced_role) at advanced-told
