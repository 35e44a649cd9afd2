-- Fields of an accepted table have a bit or more: where a class stands whole, its lengths are 1 to 64.
use Rattle.std.specs.Prelude.{Option, None, Some}
use mathlib.Core.Path.{◌≡◌, refl, subst}
use mathlib.Core.List.{List, [], ◌∷◌}
use Prim.Native.Nat.{ℕ, zero, suc, ◌+◌, ◌≤◌}
use native.Mathlib.Omega.{arith}
use Rattle.rules.specs.Limits.{depth_limit}
use Rattle.rules.specs.Class.{Class, Sign, Range, bit_array, boolean, unsigned_int, signed_int, float}
use Rattle.rules.specs.Record.{Shape, bit_field, leb_field, signed_leb_field, zero_string, text, blob, text_of, blob_of, members, elements}
use Rattle.rules.specs.Record.{elements_of, option?, options, u8}
use Rattle.rules.specs.Table.{StreamClass, Asked}
use Rattle.laws.proofs.Law.{Any, Fits, FitMembers, FitOptions, FitRoot}
use Rattle.class_layout.specs.Trees.{Stood, shape_of, optional_of, members_at, options_at, option_class, class_in, stood_at, class_at}
use Rattle.class_layout.specs.Trees.{WholeMembers, WholeOptions, WholeIn, IsWhole}
use Rattle.class_layout.specs.Fragments.{asked_at, stream_class_at, find_stream_at, fragments_of, map_option, root_class, root_place}
use Rattle.class_layout.specs.Fragments.{is_stream, Fragment}
use Rattle.class_layout.specs.Sizes.{Sized, SizedFragment}
use Rattle.class_layout.specs.Notes.{Notes}
use Rattle.class_layout.proofs.Lookups.{first_holds}
use Rattle.event_turns.specs.Roots.{class_of, RootStands}
use Rattle.packet_read.specs.Pieces.{Lent}

abbrev pub Positive : ℕ → Type 0
Positive n = 1 ≤ n

module _ (t : List ℕ) (g : ℕ → Type 0) (f : ℕ → Stood) (rec : (q : ℕ) → g q → Fits Positive Any Any (f q).class) where
  members-fit : (n at : ℕ) → WholeMembers g f at n → FitMembers Positive Any Any (members_at f at n)
  unfolding WholeMembers members_at
  members-fit zero at w = tt
  members-fit (suc n) at w = (rec at w.0, members-fit n (f at).next w.1)

  options-fit : (n at k : ℕ) → WholeOptions g f t at n → FitOptions Positive Any Any (options_at f t at n) k
  unfolding WholeOptions options_at
  options-fit zero at k w = tt
  options-fit (suc n) at k w = (tt, rec (option_class t at) w.2, options-fit n (f (option_class t at)).next (k + 1) w.3)

  optional-fits : (i : ℕ) (s : Sign) (rs : List Range) (c : Class) → Fits Positive Any Any c → Fits Positive Any Any (optional_of i s rs c)
  unfolding optional_of
  optional-fits i s [] c h = h
  optional-fits i s (r ∷ rs) c h = h

  shape-fits : (at : ℕ) (k : Shape) → WholeIn g f t at k → Fits Positive Any Any (class_in f t at k)
  unfolding WholeIn class_in
  shape-fits at (bit_field bit_array) w = (w.0, tt)
  shape-fits at (bit_field boolean) w = (w.0, tt)
  shape-fits at (bit_field unsigned_int) w = (w.0, tt)
  shape-fits at (bit_field signed_int) w = (w.0, tt)
  shape-fits at (bit_field float) w = (w.0, tt)
  shape-fits at leb_field w = tt
  shape-fits at signed_leb_field w = tt
  shape-fits at zero_string w = tt
  shape-fits at text w = tt
  shape-fits at blob w = tt
  shape-fits at text_of w = tt
  shape-fits at blob_of w = tt
  shape-fits at members w = (tt, members-fit (u8 t (at + 1)) (at + 3) w.1)
  shape-fits at elements w = (tt, rec (at + 4) w.1)
  shape-fits at elements_of w = rec (at + 3) w.1
  shape-fits at option? w = optional-fits _ _ _ _ (rec _ w.1)
  shape-fits at options w = options-fit (u8 t (at + 2)) (at + 3) 0 w.1

whole-fits : (t : List ℕ) (d p : ℕ) → IsWhole d t p → Fits Positive Any Any (class_at d t p)
unfolding IsWhole stood_at
whole-fits t zero p w = absurd w
whole-fits t (suc d) p w = shape-fits t (IsWhole d t) (stood_at d t) (λ q v. whole-fits t d q v) p (shape_of (u8 t p)) w.parts

found-fits : (t : List ℕ) (x : Option ℕ) → RootStands t x → FitRoot Positive Any Any (class_of t x)
unfolding RootStands class_of
found-fits t None w = tt
found-fits t (Some p) w = whole-fits t depth_limit p w

root-fits : (t : List ℕ) (o i : ℕ) → Fragment t o → FitRoot Positive Any Any (root_class t o i)
unfolding root_class
root-fits t o i h = by (root_place t o i) refl
  where
    by : (p : Option ℕ) → root_place t o i ≡ p → FitRoot Positive Any Any (map_option (class_at depth_limit t) p)
    by None e = unfold map_option in tt
    by (Some p) e = unfold map_option in whole-fits t depth_limit p (h.roots i p e)

context-fits : (t s : List ℕ) → Sized t s → (i : ℕ) (c : StreamClass) → (asked_at t).stream i ≡ Some c
    → FitRoot Positive Any Any c.context
unfolding asked_at
context-fits t s h i c e = by (find_stream_at t (fragments_of t) i) refl e
  where
    by : (o : Option ℕ) → find_stream_at t (fragments_of t) i ≡ o → map_option (stream_class_at t) o ≡ Some c
        → FitRoot Positive Any Any c.context
    by None q e = let z : ◌≡◌ {A = ℕ} 0 1 = unfold map_option in cc in absurd (omega arith)
    by (Some o) q e =
        let j : stream_class_at t o ≡ c = unfold map_option in cc in
        subst (λ c. FitRoot Positive Any Any c.context) j
        (unfold stream_class_at in root-fits t o 0 (first_holds (SizedFragment t s) (is_stream t i) (fragments_of t) o q h.each).1.stands)

-- what a packet reads before its lengths are known
pub record Fit (t : Asked) : Type 0 where
  pub header : FitRoot Positive Any Any t.header
  pub context : (i : ℕ) (c : StreamClass) → t.stream i ≡ Some c → FitRoot Positive Any Any c.context

pub lent_fits : (t : List ℕ) (x : Notes) (u : List ℕ) (h : Option ℕ) (b : List ℕ) → Lent t x u h b → Fit (asked_at t)
lent_fits t x u h b g = record {
  header = subst (FitRoot Positive Any Any) g.header (found-fits t h g.stands);
  context = context-fits t x.sizes g.ready.noted.sized;
}
