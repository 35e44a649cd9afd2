-- In an accepted table each slot has one home: the walk finds no fault in its bytes, and tells of each fragment what those behind it need
-- (HomesBefore). In order: the fragments of a table; that no slot is left out; homes that are told apart.
use Rattle.std.specs.Prelude.{None, Some}
use mathlib.Core.Path.{◌≡◌, refl, sym, ap, ◌∙◌, subst}
use mathlib.Core.Logic.{inl, inr}
use Prim.Native.Nat.{ℕ, zero, suc, ◌+◌, ◌≤◌}
use native.Mathlib.Omega.{arith}
use mathlib.Core.List.{List, [], ◌∷◌, ◌++◌}
use mathlib.Core.Bool.{Bool, true, false}
use lib.ListN.{length}
use Rattle.facts.proofs.Parsed.{NoFault, parse-table, parse-walk}
use Rattle.rules.specs.Class.{Class, fixed, leb128, signed_leb128, string, static_string, static_blob, dynamic_string, dynamic_blob, structure}
use Rattle.rules.specs.Class.{static_array, dynamic_array, flagged, optional, variant, Classes, no_member, member, Options, no_option}
use Rattle.rules.specs.Class.{option, setting, sets, members_set, options_set}
use Rattle.rules.specs.Faults.{Ids, no_ids, seen}
use Rattle.rules.specs.Record.{preamble}
use Rattle.rules.specs.Table.{StreamClass, Table}
use Rattle.rules.specs.Parse.{Parsed, good, missing, parse_fragments, no_table, parse}
use Rattle.rules.specs.Homes.{Homes, no_homes, header_homes, stream_homes, walk_fragments, walk}
use Rattle.promises.specs.SlotHomes.{Place, Home, Setting, homed, settings, member_settings, option_settings, of_root, of_roots}
use Rattle.promises.specs.SlotHomes.{In, OneHome, TableHomes, slots_in, SlotHomes}
use Rattle.promises.proofs.Settings.{Within, within-one, in_right}
use Rattle.promises.proofs.Fragments.{Front, front, Start, start, goes-behind}
use Rattle.promises.proofs.HomesBefore.{closed, ahead, of_stream, Rest, rest-none, rest-one}

abbrev Walk : ℕ → Type 0
Walk n =
    (q : Ids) (x : List ℕ) (t : Table) (y : List ℕ) → length x ≤ n → parse_fragments n q x ≡ good t y
    → (h : Homes) (l : List (ℕ × Homes)) (m : ℕ) → length x ≤ m → NoFault (walk_fragments m h l x) → Rest (closed q) q.streams h l t

-- one fragment, and what is behind it
walk-one : (n : ℕ) → Walk n → (q : Ids) (x : List ℕ) (t : Table) (y : List ℕ) → Front n q x t y
    → (h : Homes) (l : List (ℕ × Homes)) (m : ℕ) → length x ≤ m → NoFault (walk_fragments m h l x) → Rest (closed q) q.streams h l t
walk-one n rec q x t y o h l m k nf =
    let g = o.g in
    let b = goes-behind o.w o.roots.u o.x₁ g o.cs o.whole o.is o.ends o.roots.stops h l m
    (subst (λ x. length x ≤ m) o.split k) (subst (λ x. NoFault (walk_fragments m h l x)) o.split nf) in
    subst (Rest (closed q) q.streams h l) o.all
    (rest-one q h b.k l g o.cs o.t₁ o.clean b.told
    (rec (seen q g) o.x₁ o.t₁ o.y₁ o.len o.rest (header_homes g b.k h) (stream_homes g b.k l) b.m b.len
    b.none))

walk-all : (n : ℕ) → Walk n
unfolding parse_fragments
walk-all zero q x t y len p h l m k nf =
    let te : no_table ≡ t = cc in subst (Rest (closed q) q.streams h l) te (rest-none (closed q) q.streams h l)
walk-all (suc n) q x t y len p h l m k nf = by (walk-all n) (missing x) refl
  where
    by : Walk n → (b : Bool) → missing x ≡ b → Rest (closed q) q.streams h l t
    by rec true e =
        let p' : ◌≡◌ {A = Parsed Table} (good no_table x) (good t y) = rw (e, parse_fragments) at p in
        let te : no_table ≡ t = cc in subst (Rest (closed q) q.streams h l) te (rest-none (closed q) q.streams h l)
    by rec false e = walk-one n rec q x t y (front n q x t y len e p) h l m k nf

-- behind the preamble, before which nothing was set
table-rest : (x : List ℕ) (t : Table) (y : List ℕ) → Start x t y → NoFault (walk x) → Rest false [] no_homes [] t
unfolding walk no_ids header_homes stream_homes
table-rest x t y s nf =
    let len : length x ≤ length x = omega arith in
    let b = goes-behind s.w s.roots.u s.x₁ (preamble s.v) s.cs s.whole s.is s.ends s.roots.stops
    no_homes [] (length x)
    (subst (λ z. length z ≤ length x) s.split len) (subst (λ z. NoFault (walk_fragments (length x) no_homes [] z)) s.split nf) in
    walk-all (length s.x₁) no_ids s.x₁ t y (omega arith) s.rest no_homes [] b.m b.len b.none

accepted : (x : List ℕ) (t : Table) (y : List ℕ) → parse x ≡ good t y → TableHomes t
unfolding of_roots
accepted x t y h =
    let r = table-rest x t y (start x t y (parse-table x t y h)) (parse-walk x t y h) in
    record {
      packet = r.packet t.header (ahead refl refl);
      event = r.event;
      header = r.header;
      stream = λ s i. within-one (of_roots 2 (s.header ∷ s.common ∷ [])) (of_stream s) (of s) (r.stream s i);
    }
  where
    of : (s : StreamClass) → Within (of_roots 2 (s.header ∷ s.common ∷ [])) (of_stream s)
    of s a i = in_right a (of_root 1 s.context) (of_roots 2 (s.header ∷ s.common ∷ [])) i

-- No slot is left out

slots-append : (k l : List Setting) → slots_in (k ++ l) ≡ slots_in k ++ slots_in l
unfolding slots_in
slots-append [] l = refl
slots-append (a ∷ k) l = ap (λ x. a.slot ∷ x) (slots-append k l)

slots-homed : (h : Home) (is : List ℕ) → slots_in (homed h is) ≡ is
unfolding slots_in homed
slots-homed h [] = refl
slots-homed h (i ∷ is) = ap (λ x. i ∷ x) (slots-homed h is)

mutual
  unfolding settings sets member_settings members_set option_settings options_set slots_in

  all_slots : (c : Class) (h : Home) (p : Place) → slots_in (settings c h p) ≡ sets c
  all_slots (fixed k n o a i r) h p = slots-homed h (setting i)
  all_slots (leb128 i r) h p = slots-homed h (setting i)
  all_slots (signed_leb128 i) h p = slots-homed h (setting i)
  all_slots string h p = refl
  all_slots (static_string n) h p = refl
  all_slots (static_blob n r) h p = refl
  all_slots (dynamic_string i) h p = refl
  all_slots (dynamic_blob i) h p = refl
  all_slots (structure a cs) h p = member-slots cs h p 0
  all_slots (static_array n a c) h p = all_slots c (Some p) (0 ∷ p)
  all_slots (dynamic_array i a c) h p = all_slots c (Some p) (0 ∷ p)
  all_slots (flagged i c) h p = all_slots c h (0 ∷ p)
  all_slots (optional i g rs c) h p = all_slots c h (0 ∷ p)
  all_slots (variant i g os) h p = option-slots os h p 0

  member-slots : (cs : Classes) (h : Home) (p : Place) (k : ℕ) → slots_in (member_settings cs h p k) ≡ members_set cs
  member-slots no_member h p k = refl
  member-slots (member c cs) h p k =
      slots-append (settings c h (k ∷ p)) (member_settings cs h p (k + 1))
      ∙ ap (λ x. x ++ slots_in (member_settings cs h p (k + 1))) (all_slots c h (k ∷ p))
      ∙ ap (λ x. sets c ++ x) (member-slots cs h p (k + 1))

  option-slots : (os : Options) (h : Home) (p : Place) (k : ℕ) → slots_in (option_settings os h p k) ≡ options_set os
  option-slots no_option h p k = refl
  option-slots (option rs c os) h p k =
      slots-append (settings c h (k ∷ p)) (option_settings os h p (k + 1))
      ∙ ap (λ x. x ++ slots_in (option_settings os h p (k + 1))) (all_slots c h (k ∷ p))
      ∙ ap (λ x. sets c ++ x) (option-slots os h p (k + 1))

-- Homes told apart

some-none : (p : Place) → ◌≡◌ {A = Home} (Some p) None → ⊥
some-none p h = let z : ◌≡◌ {A = ℕ} 0 1 = cc in omega arith

other-member : (p : Place) → ◌≡◌ {A = Home} (Some (0 ∷ p)) (Some (1 ∷ p)) → ⊥
other-member p h = let z : ◌≡◌ {A = ℕ} 0 1 = cc in omega arith

other-root : ◌≡◌ {A = Home} (Some (2 ∷ [])) (Some (3 ∷ [])) → ⊥
other-root h = let z : ◌≡◌ {A = ℕ} 2 3 = cc in omega arith

inner-array : (n : ℕ) → ◌≡◌ {A = Home} (Some (n ∷ [])) (Some (1 ∷ 0 ∷ n ∷ [])) → ⊥
inner-array n h = let z : ◌≡◌ {A = List ℕ} [] (0 ∷ n ∷ []) = cc in nil-cons z
  where
    nil-cons : ◌≡◌ {A = List ℕ} [] (0 ∷ n ∷ []) → ⊥
    nil-cons e = let z : 0 ≡ suc (suc 0) = ap length e in omega arith

-- the two first of a list
first-same : (a b : Setting) (l : List Setting) → OneHome (a ∷ b ∷ l) → a.slot ≡ b.slot → a.home ≡ b.home
unfolding In
first-same a b l h = h a b (inl refl) (inr (inl refl))

-- all of one home
all_same : (o : Home) (l : List Setting) → ((a : Setting) → In a l → a.home ≡ o) → OneHome l
all_same o l h a b i j e = h a i ∙ sym (h b j)

same_more : (o : Home) (b : Setting) (l : List Setting) → b.home ≡ o → ((a : Setting) → In a l → a.home ≡ o)
    → (a : Setting) → In a (b ∷ l) → a.home ≡ o
unfolding In
same_more o b l e h a (inl f) = ap (λ (s : Setting). s.home) f ∙ e
same_more o b l e h a (inr i) = h a i

none-same : (o : Home) (a : Setting) → In a [] → a.home ≡ o
unfolding In
none-same o a i = absurd i

pub slot-homes : SlotHomes
unfolding settings member_settings option_settings homed setting of_roots of_root
slot-homes = record {
  accepted = accepted;
  all_slots = all_slots;
  in-and-out = λ h. some-none _ (first-same _ _ _ h refl);
  out-and-in = λ h. some-none _ (sym (first-same _ _ _ h refl));
  two-arrays = λ h. other-member _ (first-same _ _ _ h refl);
  two-roots = λ h. other-root (first-same _ _ _ h refl);
  inner-and-outer = λ h. inner-array 0 (first-same _ _ _ h refl);
  one-element = all_same (Some (0 ∷ [])) _ (same_more _ _ _ refl (same_more _ _ _ refl (none-same _)));
  no-array = all_same None _
      (same_more _ _ _ refl (same_more _ _ _ refl (same_more _ _ _ refl (same_more _ _ _ refl (none-same _)))));
}
