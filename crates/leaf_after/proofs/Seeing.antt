-- The rules' reading of a leaf is what is seen of it, and then what is done with that. In order: tests; a BLOB's roles; numbers; what has
-- neither slot nor role; static BLOBs; lengths that a slot gives.
use Rattle.std.specs.Prelude.{Some, None, Option}
use Rattle.rules.specs.declared.ByteLength.{ByteLength}
use Prim.Native.Nat.{ℕ, ◌-◌, ◌*◌, ◌/◌, ◌<◌, ◌≤◌}
use native.Mathlib.Omega.{arith}
use lib.Dec.{ltb, eqb}
use lib.ListN.{length, get_or-eq_default}
use mathlib.Core.Path.{◌≡◌, refl, sym, ap, ◌∙◌}
use mathlib.Core.List.{List, [], ◌∷◌}
use mathlib.Core.Logic.{⊎_elim}
use mathlib.Core.Bool.{Bool, true, false}
use borrow.Author.Tests.{eqb-true, eqb-false}
use Rattle.rules.specs.declared.BitPlace.{BitPlace}
use Rattle.rules.specs.declared.Content.{Content}
use Rattle.rules.specs.declared.Content.TheVariants.{Unset, Flag, Unsigned, Signed}
use Rattle.rules.specs.declared.Leb.{Leb}
use Rattle.rules.specs.declared.Leb.TheVariants.{Value, Past, Large}
use Rattle.rules.specs.declared.Order.{Order}
use Rattle.rules.specs.declared.Refusal.{Refusal}
use Rattle.rules.specs.declared.Refusal.TheVariants.{LengthTooLarge, WrongUuid}
use Rattle.rules.specs.Limits.{length_limit, words_per_entry, no_slot, slot_count}
use Rattle.rules.specs.Class.{no_role, Sort, leb128, signed_leb128, string, static_string, static_blob, dynamic_string, dynamic_blob}
use Rattle.rules.specs.Faults.{roles, role_of}
use Rattle.rules.specs.Slots.{slot_at}
use Rattle.rules.specs.Place.{further}
use Rattle.rules.specs.Entry.{entry}
use Rattle.rules.specs.Step.{State, Step, go, ◌⨾◌, onto, after, pass, refuse, refuse_at, check, check_at, listed, change}
use Rattle.rules.specs.Step.{with_order, with_slots}
use Rattle.rules.specs.Field.{Env, aligned, fit, ahead, bytes_at, same_bytes, field, store, role, turned, from_slot, as_number, as_length}
use Rattle.rules.specs.Field.{read_fixed, read_leb, as_text, read_zero, read_text, blob_role, read_blob, read}
use Rattle.facts.proofs.Steps.{onto-nil}
use Rattle.facts.proofs.Numbers.{lt-or-ge}
use Rattle.facts.proofs.Cases.{◌▷◌, below}
use Rattle.facts.proofs.Slots.{no-slot}
use Rattle.frame.specs.declared.Frame.{Frame}
use Rattle.leaf_find_number.specs.declared.Found.{Found}
use Rattle.leaf_find_number.specs.declared.Found.TheVariants.{At}
use Rattle.frame.specs.Framed.{env_of, aligned_at}
use Rattle.leaf_find_number.specs.Found.{unless, within, bytes_ahead, found_bits, found_leb, found_unsigned, found_signed}
use Rattle.leaf_find_bytes.specs.Found.{of_text, found_zero, found_string, found_text, found_blob}
use Rattle.slots.specs.Taken.{length_of}
use Rattle.listing.proofs.Checks.{check-stops, check-goes, check_at-stops, check_at-goes, room-first}
use Rattle.leaf_after.specs.declared.Seen.{Seen}
use Rattle.leaf_after.specs.Seeing.{Told, done, done_due, seen, fixed_seen, leb_seen, plain_seen, uuid_seen, blob_seen, for_length}

-- a test in front of what is found
check-seen : (t : State → Bool) (r : Refusal) (m : Step) (s : State) (b : Bool) (x : Found) (f : Told) →
    t s ≡ b → m s ≡ done (seen x f) s → (check t r ⨾ m) s ≡ done (seen (unless b r s.place x) f) s
unfolding ◌⨾◌ after unless seen done refuse refuse_at
check-seen t r m s true x f h e = ap (λ o. after o m) (check-stops t r s h)
check-seen t r m s false x f h e = ap (λ o. after o m) (check-goes t r s h) ∙ onto-nil (m s) ∙ e

-- one that refuses at a place of its own
check_at-seen : (t : State → Bool) (r : Refusal) (p : BitPlace) (m : Step) (s : State) (b : Bool) (x : Found) (f : Told) →
    t s ≡ b → m s ≡ done (seen x f) s → (check_at t r p ⨾ m) s ≡ done (seen (unless b r p x) f) s
unfolding ◌⨾◌ after unless seen done refuse_at
check_at-seen t r p m s true x f h e = ap (λ o. after o m) (check_at-stops t r p s h)
check_at-seen t r p m s false x f h e = ap (λ o. after o m) (check_at-goes t r p s h) ∙ onto-nil (m s) ∙ e

-- whether bytes are text: "Inside a field it comes after 22 and 25." (02, 1)
text-seen : (x : List ℕ) (m : Step) (s : State) (y : Found) (f : Told) →
    m s ≡ done (seen y f) s → (as_text x ⨾ m) s ≡ done (seen (of_text x s.place y) f) s
unfolding as_text of_text
text-seen x m s y f e = check-seen _ _ m s _ y f refl e

-- the state behind an entry
abbrev behind_entry : BitPlace → ℕ → State → State
behind_entry p n s = record {
  place = further p n;
  room = s.room - words_per_entry;
  slots = s.slots;
  order = s.order;
  clock = s.clock;
  last = s.last;
  said = s.said;
}

-- Roles of a BLOB

module _ (e : Env) where
  abbrev Passes : ℕ → Type 0
  Passes r = (r ≡ 4 → ⊥) → (bs : List ℕ) (s : State) → blob_role e (role_of r) bs s ≡ go [] s

  -- a role that is not the UUID's lets a BLOB be
  passes-listed : (r : ℕ) → r < 12 → Passes r
  unfolding blob_role role_of roles pass
  passes-listed = below Passes 12
      ((λ h bs s. refl)
      ▷ (λ h bs s. refl)
      ▷ (λ h bs s. refl)
      ▷ (λ h bs s. refl)
      ▷ (λ h bs s. absurd (h refl))
      ▷ (λ h bs s. refl)
      ▷ (λ h bs s. refl)
      ▷ (λ h bs s. refl)
      ▷ (λ h bs s. refl)
      ▷ (λ h bs s. refl)
      ▷ (λ h bs s. refl)
      ▷ (λ h bs s. refl)
      ▷ tt)

  passes : (r : ℕ) → Passes r
  unfolding blob_role role_of roles pass
  passes r h bs s = ⊎_elim
      (λ (l : r < 12). passes-listed r l h bs s)
      (λ (l : 12 ≤ r). rw (get_or-eq_default roles no_role l) refl)
      (lt-or-ge r 12)

-- m is the number of the leaf's record
module _ (b uuid : List ℕ) (f : Frame) (m : ℕ) (s : State) (h : words_per_entry ≤ s.room) where
  abbrev env : Env
  env = env_of b uuid f

  -- Numbers

  pub fixed-read : (k : Sort) (n : ℕ) (o : Order) (a i r : ℕ) →
      read_fixed env m k n o a i (role_of r) s ≡ done (seen (found_bits b f s.place s.order n o a) (fixed_seen m k o i r)) s
  unfolding read_fixed ◌⨾◌ fit turned aligned field found_bits within aligned_at seen done done_due fixed_seen
  fixed-read k n o a i r = room-first _ s h
      ∙ check_at-seen _ _ _ _ s _ _ (fixed_seen m k o i r) refl
      (check-seen _ _ _ s _ _ (fixed_seen m k o i r) refl (check_at-seen _ _ _ _ s _ _ (fixed_seen m k o i r) refl refl))

  leb-read : (k i r : ℕ) (c : ℕ → Content) (x : Leb) →
      read_leb env m k c i (role_of r) x s ≡ done (seen (found_leb f (aligned_at f 8 s.place) x) (leb_seen m k c s.order i r)) s
  unfolding read_leb ◌⨾◌ after listed change with_order field aligned found_leb aligned_at seen done done_due leb_seen
  leb-read k i r c (Value v n) =
      let bytes : 8 * n.0 / 8 ≡ n.0 = omega arith in
      rw (bytes) (ap (onto (entry k (aligned_at f 8 s.place) (8 * n.0) v m ∷ [])) (sym (onto-nil _)))
  leb-read k i r c Past = refl
  leb-read k i r c Large = refl

  pub unsigned-read : (i r : ℕ) → read env m (leb128 i (role_of r)) s
      ≡ done (seen (found_unsigned b f s.place) (leb_seen m 21 Unsigned s.order i r)) s
  unfolding read fit aligned ahead found_unsigned bytes_ahead within aligned_at
  unsigned-read i r = room-first _ s h ∙ check_at-seen _ _ _ _ s _ _ (leb_seen m 21 Unsigned s.order i r) refl (leb-read 21 i r Unsigned _)

  pub signed-read : (i : ℕ) → read env m (signed_leb128 i) s
      ≡ done (seen (found_signed b f s.place) (leb_seen m 22 Signed s.order i 0)) s
  unfolding read fit aligned ahead found_signed bytes_ahead within aligned_at role_of roles
  signed-read i = room-first _ s h ∙ check_at-seen _ _ _ _ s _ _ (leb_seen m 22 Signed s.order i 0) refl (leb-read 22 i 0 Signed _)

  module _ (long : length s.slots ≡ slot_count) where
    -- What has neither slot nor role

    plain-listed : (k : ℕ) (p : BitPlace) (n v : ℕ) → listed (entry k p n v m) (further p n) s ≡ done (plain_seen m k s.order p n v) s
    unfolding done done_due plain_seen ◌⨾◌ after onto listed change with_order store with_slots role role_of roles pass
    plain-listed k p n v = rw (no-slot s.slots no_slot Unset long (omega arith)) refl

    zero-read : (x : Option ByteLength) → read_zero env m x s
        ≡ done (seen (found_zero b s.place (aligned_at f 8 s.place) x) (plain_seen m 23 s.order)) s
    unfolding read_zero ◌⨾◌ refuse refuse_at bytes_at field aligned found_zero aligned_at seen done
    zero-read (Some n) = text-seen _ _ s (At _ _ _) (plain_seen m 23 s.order) (plain-listed 23 _ _ _)
    zero-read None = refl

    pub string-read : read env m string s ≡ done (seen (found_string b f s.place) (plain_seen m 23 s.order)) s
    unfolding read fit aligned ahead found_string bytes_ahead within aligned_at
    string-read = room-first _ s h ∙ check_at-seen _ _ _ _ s _ _ (plain_seen m 23 s.order) refl (zero-read _)

    text-read : (k n : ℕ) → read_text env m k n s ≡ done (seen (found_text b f s.place n) (plain_seen m k s.order)) s
    unfolding read_text fit aligned bytes_at field found_text within aligned_at seen
    text-read k n =
        let plain = plain_seen m k s.order in
        check_at-seen _ _ _ _ s _ _ plain refl
        (check_at-seen _ _ _ _ s _ _ plain refl (text-seen _ _ s (At _ _ _) plain (plain-listed k _ _ _)))

    pub static-string-read : (n : ℕ) → read env m (static_string n) s
        ≡ done (seen (found_text b f s.place n) (plain_seen m 24 s.order)) s
    unfolding read
    static-string-read n = room-first _ s h ∙ text-read 24 n

    -- a step that goes on and lists nothing changes nothing behind an entry
    listing-goes : (k : ℕ) (p : BitPlace) (n v : ℕ) (step : Step) → step (behind_entry p n s) ≡ go [] (behind_entry p n s)
        → (listed (entry k p n v m) (further p n) ⨾ step) s ≡ done (plain_seen m k s.order p n v) s
    unfolding listed ◌⨾◌ after onto
    listing-goes k p n v step e = ap (onto (entry k p n v m ∷ [])) e ∙ plain-listed k p n v

    blob-read : (k n : ℕ) → read_blob env m k n no_role s ≡ done (seen (found_blob f s.place n) (plain_seen m k s.order)) s
    unfolding read_blob ◌⨾◌ fit aligned bytes_at field found_blob within aligned_at seen blob_role pass
    blob-read k n =
        let plain = plain_seen m k s.order in
        check_at-seen _ _ _ _ s _ _ plain refl (check_at-seen _ _ _ _ s _ _ plain refl (listing-goes k _ _ _ pass refl))

    -- Static BLOBs

    module _ (p : BitPlace) (n v : ℕ) where
      -- what a BLOB with a role does behind its tests
      abbrev Roled : ℕ → Step
      Roled r = listed (entry 25 p n v m) (further p n) ⨾ blob_role env (role_of r) (bytes_at env p v)

      uuid-listed : Roled 4 s ≡ done (uuid_seen m b uuid s.order p n v) s
      unfolding uuid_seen bytes_at done role_of roles blob_role listed ◌⨾◌ after
      uuid-listed = by (same_bytes (bytes_at env p v) uuid) refl
        where
          by : (t : Bool) → same_bytes (bytes_at env p v) uuid ≡ t → Roled 4 s ≡ done (uuid_seen m b uuid s.order p n v) s
          by true e = rw (e, uuid_seen) (listing-goes 25 p n v (check (λ s. false) WrongUuid) (check-goes _ WrongUuid _ refl))
          by false e = rw (e, uuid_seen) (ap (onto (entry 25 p n v m ∷ [])) (check-stops _ WrongUuid _ refl))

      blob-listed : (r : ℕ) → Roled r s ≡ done (blob_seen m b uuid r s.order p n v) s
      unfolding blob_seen
      blob-listed r = by (eqb r 4) refl
        where
          by : (t : Bool) → eqb r 4 ≡ t → Roled r s ≡ done (blob_seen m b uuid r s.order p n v) s
          by true e = rw (e, blob_seen) (rw (eqb-true r 4 e) uuid-listed)
          by false e = rw (e, blob_seen) (listing-goes 25 p n v _ (passes env r (eqb-false r 4 e) _ _))

    pub static-blob-read : (n r : ℕ) → read env m (static_blob n (role_of r)) s
        ≡ done (seen (found_blob f s.place n) (blob_seen m b uuid r s.order)) s
    unfolding read read_blob ◌⨾◌ fit aligned field found_blob within aligned_at seen
    static-blob-read n r =
        let blob = blob_seen m b uuid r s.order in
        room-first _ s h ∙ check_at-seen _ _ _ _ s _ _ blob refl (check_at-seen _ _ _ _ s _ _ blob refl (blob-listed _ _ _ r))

    -- Lengths that a slot gives

    length-read : (x : Content) (step : ℕ → Step) (g : ℕ → Seen) → ((n : ℕ) → step n s ≡ done (g n) s)
        → as_length x step s ≡ done (for_length s.place (length_of x) g) s
    unfolding as_length as_number length_of for_length done ◌⨾◌ after refuse refuse_at
    length-read Unset step g e = refl
    length-read (Flag t) step g e = refl
    length-read (Unsigned n) step g e = by (ltb length_limit n) refl
      where
        by : (t : Bool) → ltb length_limit n ≡ t → as_length (Unsigned n) step s ≡ done (for_length s.place (length_of (Unsigned n)) g) s
        by true i = ap (λ o. after o (step n)) (check-stops _ LengthTooLarge s i) ∙ rw (i, length_of) refl
        by false i = ap (λ o. after o (step n)) (check-goes _ LengthTooLarge s i) ∙ onto-nil (step n s) ∙ rw (i, length_of) (e n)
    length-read (Signed n) step g e = refl

    pub dynamic-string-read : (i : ℕ) → read env m (dynamic_string i) s
        ≡ done (for_length s.place (length_of (slot_at s.slots i)) (λ n.
        seen (found_text b f s.place n) (plain_seen m 26 s.order))) s
    unfolding read from_slot
    dynamic-string-read i = room-first _ s h ∙ length-read _ _ _ (text-read 26)

    pub dynamic-blob-read : (i : ℕ) → read env m (dynamic_blob i) s
        ≡ done (for_length s.place (length_of (slot_at s.slots i)) (λ n.
        seen (found_blob f s.place n) (plain_seen m 27 s.order))) s
    unfolding read from_slot
    dynamic-blob-read i = room-first _ s h ∙ length-read _ _ _ (blob-read 27)
