-- Laws of every field's reading, proved once over the classes: what holds of the parts of a reading, and under their composition, holds
-- of it.
--
-- FieldKind                      the kinds of a field's entry
-- Fits, FitMembers, FitOptions,  what is asked of the numbers of a class, of members, of options and of a root
--   FitRoot
-- fits, fit_members, fit_root      where every number will do, every class does
-- Numbered, NumberedMembers,     what is asked of each class's record: of its number within the fragment and the class's kind
--   NumberedOptions, NumberedRoot
-- AnyRecord, any-numbers,        where every record will do
--   any-root
-- Each, each-sets                what is asked of each slot of a list: of a class that fits, it holds of those that it sets
-- SlotOf                         what is asked of a slot's number
-- Law                            a law of steps, by the parts that every reading is made of
-- numbered-read, numbered-root   it holds of a field's reading, of a root's
-- law-read, law-members,         a law that asks nothing of the records: the same, and of members one after another
--   law-root
-- law-times                      it holds of a step that is done n times
-- law-forget                     it holds where a class's slots are forgotten
-- Any, any-slot, law-any         a law that asks nothing of the numbers
use Rattle.std.specs.Prelude.{Option, None, Some}
use Prim.Native.Nat.{ℕ, zero, suc, ◌+◌, ◌^◌, ◌≤◌, max}
use native.Mathlib.Omega.{arith}
use lib.Pow.{pow_pos}
use mathlib.Core.List.{List, [], ◌∷◌, ◌++◌}
use mathlib.Core.Bool.{Bool, true, false}
use lib.ListN.{length}
use lib.Dec.{ltb, eqb}
use Rattle.rules.specs.declared.Order.{Order}
use Rattle.rules.specs.declared.Refusal.TheVariants.{SlotUnset, SlotOfWrongSort, LengthTooLarge, SelectorInNoOption}
use Rattle.rules.specs.declared.Content.{Content}
use Rattle.rules.specs.declared.Content.TheVariants.{Unset, Flag, Unsigned, Signed}
use Rattle.rules.specs.Limits.{length_limit, no_slot}
use Rattle.rules.specs.Leb128.{leb_unsigned, leb_signed}
use Rattle.rules.specs.Text.{zero_at}
use Rattle.rules.specs.Step.{Step, ◌⨾◌, refuse, check, due, pass}
use Rattle.rules.specs.Class.{Role, no_role, Sort, Sign, plain, signed as with_sign, any_holds, align_of, kind_of, records}
use Rattle.rules.specs.Class.{Class, fixed, leb128, signed_leb128, string, static_string, static_blob, dynamic_string, dynamic_blob}
use Rattle.rules.specs.Class.{structure, static_array, dynamic_array, flagged, optional, variant}
use Rattle.rules.specs.Class.{Classes, no_member, member, Options, no_option, option, count, setting, sets, members_set, options_set}
use Rattle.rules.specs.Field.{Env, aligned, fit, field, store, as_flag, as_number, as_length, from_slot, ahead, times, forget, present}
use Rattle.rules.specs.Field.{read_fixed, read_leb, read_zero, read_text, read_blob, read, read_members, read_option}
use Rattle.rules.specs.Packet.{read_root}
use Rattle.facts.proofs.Forgets.{forgetting, forget-as, forgetting-none, forgetting-more}

-- the kinds of a field's entry
abbrev pub FieldKind : ℕ → Type 0
FieldKind k = (16 ≤ k) × (k ≤ 32)

-- what may be asked of a class's numbers: N of a field's bits, S of a slot that is set, W of a value that is listed as it stands
module _ (N S W : ℕ → Type 0) where
  abbrev mutual
    pub Fits : Class → Type 0
    Fits (fixed k n o a i r) = N n × S i
    Fits (leb128 i r) = S i
    Fits (signed_leb128 i) = S i
    Fits string = Unit {0}
    Fits (static_string n) = Unit {0}
    Fits (static_blob n r) = Unit {0}
    Fits (dynamic_string i) = Unit {0}
    Fits (dynamic_blob i) = Unit {0}
    Fits (structure a cs) = W (count cs) × FitMembers cs
    Fits (static_array n a c) = W n × Fits c
    Fits (dynamic_array i a c) = Fits c
    Fits (flagged i c) = Fits c
    Fits (optional i g rs c) = Fits c
    Fits (variant i g os) = FitOptions os 0

    pub FitMembers : Classes → Type 0
    FitMembers no_member = Unit {0}
    FitMembers (member c cs) = Fits c × FitMembers cs

    pub FitOptions : Options → ℕ → Type 0
    FitOptions no_option k = Unit {0}
    FitOptions (option rs c os) k = W k × Fits c × FitOptions os (k + 1)

  abbrev pub FitRoot : Option Class → Type 0
  FitRoot None = Unit {0}
  FitRoot (Some c) = Fits c

  -- where every number will do, every class does
  module _ (n : (x : ℕ) → N x) (s : (x : ℕ) → S x) (v : (x : ℕ) → W x) where
    mutual
      pub fits : (c : Class) → Fits c
      fits (fixed k m o a i r) = (n m, s i)
      fits (leb128 i r) = s i
      fits (signed_leb128 i) = s i
      fits string = tt
      fits (static_string m) = tt
      fits (static_blob m r) = tt
      fits (dynamic_string i) = tt
      fits (dynamic_blob i) = tt
      fits (structure a cs) = (v (count cs), fit_members cs)
      fits (static_array m a c) = (v m, fits c)
      fits (dynamic_array i a c) = fits c
      fits (flagged i c) = fits c
      fits (optional i g rs c) = fits c
      fits (variant i g os) = fit_options os 0

      pub fit_members : (cs : Classes) → FitMembers cs
      fit_members no_member = tt
      fit_members (member c cs) = (fits c, fit_members cs)

      fit_options : (os : Options) (k : ℕ) → FitOptions os k
      fit_options no_option k = tt
      fit_options (option rs c os) k = (v k, fits c, fit_options os (k + 1))

    pub fit_root : (c : Option Class) → FitRoot c
    fit_root None = tt
    fit_root (Some c) = fits c

-- what may be asked of each class's record: M of its number, where the class's own is m, and of its kind
module _ (M : ℕ → ℕ → Type 0) where
  abbrev mutual
    pub Numbered : ℕ → Class → Type 0
    Numbered m (fixed k n o a i r) = M m (kind_of k)
    Numbered m (leb128 i r) = M m 21
    Numbered m (signed_leb128 i) = M m 22
    Numbered m string = M m 23
    Numbered m (static_string n) = M m 24
    Numbered m (static_blob n r) = M m 25
    Numbered m (dynamic_string i) = M m 26
    Numbered m (dynamic_blob i) = M m 27
    Numbered m (structure a cs) = M m 28 × NumberedMembers (m + 1) cs
    Numbered m (static_array n a c) = M m 29 × Numbered (m + 1) c
    Numbered m (dynamic_array i a c) = M m 30 × Numbered (m + 1) c
    Numbered m (flagged i c) = M m 31 × Numbered (m + 1) c
    Numbered m (optional i g rs c) = M m 31 × Numbered (m + 1 + length rs) c
    Numbered m (variant i g os) = M m 32 × NumberedOptions (m + 1) os

    pub NumberedMembers : ℕ → Classes → Type 0
    NumberedMembers m no_member = Unit {0}
    NumberedMembers m (member c cs) = Numbered m c × NumberedMembers (m + records c) cs

    pub NumberedOptions : ℕ → Options → Type 0
    NumberedOptions j no_option = Unit {0}
    NumberedOptions j (option rs c os) = Numbered (j + 1 + length rs) c × NumberedOptions (j + 1 + length rs + records c) os

  abbrev pub NumberedRoot : ℕ → Option Class → Type 0
  NumberedRoot m None = Unit {0}
  NumberedRoot m (Some c) = Numbered m c

-- where every record will do
abbrev pub AnyRecord : ℕ → ℕ → Type 0
AnyRecord m k = Unit {0}

mutual
  pub any-numbers : (m : ℕ) (c : Class) → Numbered AnyRecord m c
  any-numbers m (fixed k n o a i r) = tt
  any-numbers m (leb128 i r) = tt
  any-numbers m (signed_leb128 i) = tt
  any-numbers m string = tt
  any-numbers m (static_string n) = tt
  any-numbers m (static_blob n r) = tt
  any-numbers m (dynamic_string i) = tt
  any-numbers m (dynamic_blob i) = tt
  any-numbers m (structure a cs) = (tt, any-members (m + 1) cs)
  any-numbers m (static_array n a c) = (tt, any-numbers (m + 1) c)
  any-numbers m (dynamic_array i a c) = (tt, any-numbers (m + 1) c)
  any-numbers m (flagged i c) = (tt, any-numbers (m + 1) c)
  any-numbers m (optional i g rs c) = (tt, any-numbers (m + 1 + length rs) c)
  any-numbers m (variant i g os) = (tt, any-options (m + 1) os)

  any-members : (m : ℕ) (cs : Classes) → NumberedMembers AnyRecord m cs
  any-members m no_member = tt
  any-members m (member c cs) = (any-numbers m c, any-members (m + records c) cs)

  any-options : (j : ℕ) (os : Options) → NumberedOptions AnyRecord j os
  any-options j no_option = tt
  any-options j (option rs c os) = (any-numbers (j + 1 + length rs) c, any-options (j + 1 + length rs + records c) os)

pub any-root : (m : ℕ) (c : Option Class) → NumberedRoot AnyRecord m c
any-root m None = tt
any-root m (Some c) = any-numbers m c

-- what is asked of each slot of a list
abbrev pub Each : (ℕ → Type 0) → List ℕ → Type 0
Each S [] = Unit {0}
Each S (i ∷ is) = S i × Each S is

each_append : (S : ℕ → Type 0) (is js : List ℕ) → Each S is → Each S js → Each S (is ++ js)
each_append S [] js h k = k
each_append S (i ∷ is) js h k = (h.0, each_append S is js h.1 k)

each-setting : (S : ℕ → Type 0) (i : ℕ) → S i → Each S (setting i)
unfolding setting
each-setting S i h = by (eqb i no_slot)
  where
    by : (b : Bool) → Each S (elim b [ true ↦ [] | false ↦ i ∷ [] ])
    by true = tt
    by false = (h, tt)

-- of a class that fits, the slots that it sets and all that it holds
module _ (N S W : ℕ → Type 0) where
  mutual
    unfolding sets members_set options_set

    pub each-sets : (c : Class) → Fits N S W c → Each S (sets c)
    each-sets (fixed k n o a i r) w = each-setting S i w.1
    each-sets (leb128 i r) w = each-setting S i w
    each-sets (signed_leb128 i) w = each-setting S i w
    each-sets string w = tt
    each-sets (static_string n) w = tt
    each-sets (static_blob n r) w = tt
    each-sets (dynamic_string i) w = tt
    each-sets (dynamic_blob i) w = tt
    each-sets (structure a cs) w = each-members cs w.1
    each-sets (static_array n a c) w = each-sets c w.1
    each-sets (dynamic_array i a c) w = each-sets c w
    each-sets (flagged i c) w = each-sets c w
    each-sets (optional i g rs c) w = each-sets c w
    each-sets (variant i g os) w = each-options os 0 w

    each-members : (cs : Classes) → FitMembers N S W cs → Each S (members_set cs)
    each-members no_member w = tt
    each-members (member c cs) w = each_append S (sets c) (members_set cs) (each-sets c w.0) (each-members cs w.1)

    each-options : (os : Options) (k : ℕ) → FitOptions N S W os k → Each S (options_set os)
    each-options no_option k w = tt
    each-options (option rs c os) k w =
        each_append S (sets c) (options_set os) (each-sets c w.1) (each-options os (k + 1) w.2)

-- what is asked of a slot's number
abbrev pub SlotOf : (ℕ → Type 0) → Content → Type 0
SlotOf W Unset = Unit {0}
SlotOf W (Flag b) = Unit {0}
SlotOf W (Unsigned n) = W n
SlotOf W (Signed n) = W n

-- L is a law of steps, and R the same of steps that come where there is room for an entry. M is asked of the record that an entry names:
-- of its number m and the entry's kind
pub record Law (e : Env) (M : ℕ → ℕ → Type 0) (N S W : ℕ → Type 0) (L R : Step → Type 0) : Type 0 where
  pub none? : W 0
  pub one? : W 1
  pub seq : {m n : Step} → L m → L n → L (m ⨾ n)
  pub dueʳ : {m : Step} → R m → L (due ⨾ m)
  pub passes : L pass
  -- an element's slots are forgotten, one after another
  pub unsets : (i : ℕ) → S i → L (store i Unset)
  pub unset : R (refuse SlotUnset)
  pub wrong_sort : R (refuse SlotOfWrongSort)
  pub in_none : R (refuse SelectorInNoOption)
  pub within : (n : ℕ) {m : Step} → R m → R (check (λ s. ltb length_limit n) LengthTooLarge ⨾ m)
  pub slot : (i : ℕ) (f : Content → Step) → ((x : Content) → SlotOf W x → R (f x)) → R (from_slot i f)
  pub fixes : (m : ℕ) (k : Sort) (n : ℕ) (o : Order) (a i : ℕ) (r : Role) → M m (kind_of k) → N n → S i
      → L (read_fixed e m k n o (2 ^ a) i r)
  pub lebs : (m i : ℕ) (r : Role) → M m 21 → S i
      → R (fit e 8 0 ⨾ λ s. read_leb e m 21 Unsigned i r (leb_unsigned (ahead e (aligned e 8 s))) s)
  pub signed_lebs : (m i : ℕ) → M m 22 → S i
      → R (fit e 8 0 ⨾ λ s. read_leb e m 22 Signed i no_role (leb_signed (ahead e (aligned e 8 s))) s)
  pub zeros : (m : ℕ) → M m 23 → R (fit e 8 0 ⨾ λ s. read_zero e m (zero_at (ahead e (aligned e 8 s))) s)
  pub texts : (m k n : ℕ) → FieldKind k → M m k → R (read_text e m k n)
  pub blobs : (m k n : ℕ) (r : Role) → FieldKind k → M m k → R (read_blob e m k n r)
  -- the entry of a structure or array, and what is inside
  pub heads : (m k a v : ℕ) → FieldKind k → M m k → 1 ≤ a → W v → {f : Step} → L f → R (fit e a 0 ⨾ field e m k a 0 v ⨾ f)
  -- the entry of an optional or variant, and what is inside
  pub tags : (m k v : ℕ) → FieldKind k → M m k → W v → {f : Step} → L f → R (field e m k 1 0 v ⨾ f)
  pub tag : (m k v : ℕ) → FieldKind k → M m k → W v → R (field e m k 1 0 v)

one-le : (a b : ℕ) → 1 ≤ max (2 ^ a) b
one-le a b = omega (arith, pow_pos a)

module _ (e : Env) {M : ℕ → ℕ → Type 0} {N S W : ℕ → Type 0} {L R : Step → Type 0} (h : Law e M N S W L R) where
  law-flag : (x : Content) (f : Bool → Step) → ((b : Bool) → R (f b)) → R (as_flag x f)
  unfolding as_flag
  law-flag Unset f g = h.unset
  law-flag (Flag b) f g = g b
  law-flag (Unsigned n) f g = h.wrong_sort
  law-flag (Signed n) f g = h.wrong_sort

  law-number : (s : Sign) (x : Content) (f : ℕ → Step) → SlotOf W x → ((n : ℕ) → W n → R (f n)) → R (as_number s x f)
  unfolding as_number
  law-number s Unset f p g = h.unset
  law-number s (Flag b) f p g = h.wrong_sort
  law-number plain (Unsigned n) f p g = g n p
  law-number with_sign (Unsigned n) f p g = h.wrong_sort
  law-number plain (Signed n) f p g = h.wrong_sort
  law-number with_sign (Signed n) f p g = g n p

  law-length : (x : Content) (f : ℕ → Step) → SlotOf W x → ((n : ℕ) → W n → R (f n)) → R (as_length x f)
  unfolding as_length
  law-length x f p g = law-number plain x _ p (λ n q. h.within n (g n q))

  pub law-times : (n : ℕ) {m : Step} → L m → L (times n m)
  unfolding times
  law-times zero g = h.passes
  law-times (suc n) g = h.seq g (law-times n g)

  law-forgetting : (is : List ℕ) → Each S is → L (forgetting is)
  law-forgetting [] w = rw forgetting-none h.passes
  law-forgetting (i ∷ is) w = rw (forgetting-more i is) (h.seq (h.unsets i w.0) (law-forgetting is w.1))

  pub law-forget : (c : Class) → Fits N S W c → L (forget c)
  law-forget c w = rw (forget-as c) (law-forgetting (sets c) (each-sets N S W c w))

  -- an element
  law-element : (c : Class) {m : Step} → Fits N S W c → L m → L (forget c ⨾ m ⨾ forget c)
  law-element c w g = h.seq (law-forget c w) (h.seq g (law-forget c w))

  law-if : (b : Bool) {x y : Step} → R x → R y → R (elim b [ true ↦ x | false ↦ y ])
  law-if true p q = p
  law-if false p q = q

  law-present : (m : ℕ) (b : Bool) {f : Step} → M m 31 → L f → R (present e m b f)
  unfolding present
  law-present m true z g = h.tags m 31 1 (omega arith) z h.one? g
  law-present m false z g = h.tag m 31 0 (omega arith) z h.none?

  mutual
    unfolding read align_of read_members read_option

    pub numbered-read : (m : ℕ) (c : Class) → Fits N S W c → Numbered M m c → L (read e m c)
    numbered-read m (fixed k n o a i r) w z = h.fixes m k n o a i r z w.0 w.1
    numbered-read m (leb128 i r) w z = h.dueʳ (h.lebs m i r z w)
    numbered-read m (signed_leb128 i) w z = h.dueʳ (h.signed_lebs m i z w)
    numbered-read m string w z = h.dueʳ (h.zeros m z)
    numbered-read m (static_string n) w z = h.dueʳ (h.texts m 24 n (omega arith) z)
    numbered-read m (static_blob n r) w z = h.dueʳ (h.blobs m 25 n r (omega arith) z)
    numbered-read m (dynamic_string i) w z =
        h.dueʳ (h.slot i _ (λ x p. law-length x _ p (λ n q. h.texts m 26 n (omega arith) z)))
    numbered-read m (dynamic_blob i) w z =
        h.dueʳ (h.slot i _ (λ x p. law-length x _ p (λ n q. h.blobs m 27 n no_role (omega arith) z)))
    numbered-read m (structure a cs) w z =
        h.dueʳ (h.heads m 28 _ _ (omega arith) z.0 (one-le a _) w.0 (numbered-members (m + 1) cs w.1 z.1))
    numbered-read m (static_array n a c) w z =
        h.dueʳ (h.heads m 29 _ _ (omega arith) z.0 (one-le a _) w.0
        (law-times n (law-element c w.1 (numbered-read (m + 1) c w.1 z.1))))
    numbered-read m (dynamic_array i a c) w z =
        h.dueʳ (h.slot i _ (λ x p. law-length x _ p (λ n q.
        h.heads m 30 _ _ (omega arith) z.0 (one-le a _) q (law-times n (law-element c w (numbered-read (m + 1) c w z.1))))))
    numbered-read m (flagged i c) w z =
        h.dueʳ (h.slot i _ (λ x p. law-flag x _ (λ b. law-present m b z.0 (numbered-read (m + 1) c w z.1))))
    numbered-read m (optional i g rs c) w z =
        h.dueʳ (h.slot i _ (λ x p. law-number g x _ p (λ v q.
        law-present m (any_holds g v rs) z.0 (numbered-read (m + 1 + length rs) c w z.1))))
    numbered-read m (variant i g os) w z =
        h.dueʳ (h.slot i _ (λ x p. law-number g x _ p (λ v q. numbered-option m (m + 1) g v 0 os w z.0 z.1)))

    numbered-members : (m : ℕ) (cs : Classes) → FitMembers N S W cs → NumberedMembers M m cs → L (read_members e m cs)
    numbered-members m no_member w z = h.passes
    numbered-members m (member c cs) w z =
        h.seq (numbered-read m c w.0 z.0) (numbered-members (m + records c) cs w.1 z.1)

    numbered-option : (m j : ℕ) (g : Sign) (v k : ℕ) (os : Options) → FitOptions N S W os k → M m 32 → NumberedOptions M j os
        → R (read_option e m j g v k os)
    numbered-option m j g v k no_option w y z = h.in_none
    numbered-option m j g v k (option rs c os) w y z =
        law-if (any_holds g v rs) (h.tags m 32 k (omega arith) y w.0 (numbered-read (j + 1 + length rs) c w.1 z.0))
        (numbered-option m (j + 1 + length rs + records c) g v (k + 1) os w.2 y z.1)

  pub numbered-root : (m : ℕ) (c : Option Class) → FitRoot N S W c → NumberedRoot M m c → L (read_root e m c)
  unfolding read_root
  numbered-root m None w z = h.passes
  numbered-root m (Some c) w z = numbered-read m c w z

-- a law that asks nothing of the records
module _ (e : Env) {N S W : ℕ → Type 0} {L R : Step → Type 0} (h : Law e AnyRecord N S W L R) where
  pub law-read : (m : ℕ) (c : Class) → Fits N S W c → L (read e m c)
  law-read m c w = numbered-read e h m c w (any-numbers m c)

  pub law-members : (m : ℕ) (cs : Classes) → FitMembers N S W cs → L (read_members e m cs)
  law-members m cs w = numbered-members e h m cs w (any-members m cs)

  pub law-root : (m : ℕ) (c : Option Class) → FitRoot N S W c → L (read_root e m c)
  law-root m c w = numbered-root e h m c w (any-root m c)

-- a law that asks nothing of the numbers
abbrev pub Any : ℕ → Type 0
Any n = Unit {0}

pub any-slot : (x : Content) → SlotOf Any x
any-slot Unset = tt
any-slot (Flag b) = tt
any-slot (Unsigned n) = tt
any-slot (Signed n) = tt

pub law-any : (e : Env) {L R : Step → Type 0} → Law e AnyRecord Any Any Any L R → (m : ℕ) (c : Option Class) → L (read_root e m c)
law-any e h m c = law-root e h m c (fit_root Any Any Any (λ n. tt) (λ n. tt) (λ n. tt) c)
