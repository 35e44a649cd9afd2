-- The walk over a class and all that it holds is the rules' parse of it, at every depth.
use Rattle.std.specs.Prelude.{None}
use mathlib.Core.Path.{◌≡◌, refl, ap}
use mathlib.Core.Bool.{Bool, true, false}
use mathlib.Core.List.{List, []}
use Prim.Native.Nat.{ℕ, zero, suc, ◌+◌, ◌<◌, ◌≤◌}
use native.Mathlib.Omega.{arith}
use native.Mathlib.Nat.{le_trans}
use lib.Dec.{eqb-suc-zero}
use borrow.Author.Tests.{eq-eqb, ne_eqb}
use Rattle.facts.specs.Bytes.{Bytes}
use Rattle.rules.specs.Class.{Class, structure, static_array, dynamic_array, variant as a_variant}
use Rattle.rules.specs.Record.{Shape, Says as Said, Record, behind}
use Rattle.rules.specs.Faults.{Ids, Spot, top, leading, inside as within, member_spot, meets, class_fault as rules_fault}
use Rattle.rules.specs.Parse.{Parser, selected, the_sign, parse_shape, parse_body, parse_class}
use Rattle.table_offsets.specs.Walks.{Walk, Fine}
use Rattle.table_offsets.specs.declared.Under.{Under}
use Rattle.table_offsets.specs.declared.Says.{Says}
use Rattle.table_offsets.specs.Bodies.{no_kind, body_mark}
use Rattle.table_offsets.specs.Check.{pick_n, pick_w, first, byte_at, say, sayings, say_of, says_at, role_ok, kind_fault, say_fault}
use Rattle.table_offsets.specs.Check.{class_fault, meets_any, kind_at, class_at}
use Rattle.table_offsets.proofs.TieBytes.{Rest}
use Rattle.table_offsets.proofs.TieKinds.{plain, Single, bits, lebs, signed_lebs, to_zero, texts}
use Rattle.table_offsets.proofs.TieKinds.{blobs, texts_of, blobs_of, Shaped, single}
use Rattle.table_offsets.proofs.TieKinds.{structured, static, dynamic, optional, variant}
use Rattle.table_offsets.proofs.TieKinds.{Stands, nothing, a_preamble, a_trace, a_clock, a_stream}
use Rattle.table_offsets.proofs.TieKinds.{an_event, a_root, a_class, a_range, an_option, stands}
use Rattle.table_offsets.proofs.TieHead.{rest-behind}
use Rattle.table_offsets.proofs.TieIds.{Sees}
use Rattle.table_offsets.proofs.TieWalk.{Tied, both-good, then_tie, made-tie, one-tie}
use Rattle.table_offsets.proofs.TieSays.{Spotted, ruled}
use Rattle.table_offsets.proofs.TieClass.{class-agrees, class-late}
use Rattle.table_offsets.proofs.Picked.{first_fine}
use Rattle.table_offsets.proofs.Sound.{kind-fine}
use Rattle.table_offsets.proofs.TieRanges.{Told, Read, ranges-tie}
use Rattle.table_offsets.proofs.TieOptions.{Walks, members-tie, options-tie}

past-root : (z : Spot) (k start at : ℕ) → Spotted z start at → kind_fault k start at ≡ 0 → (k ≡ 28 → ⊥) → start + 3 ≤ at
unfolding kind_fault
past-root top k start at s h n =
    let e : ◌≡◌ {A = ℕ} 9 0 = unfold pick_n in rw (eq-eqb at start s, ne_eqb k 28 n) at h in absurd (omega arith)
past-root leading k start at s h n = omega arith
past-root within k start at s h n = omega arith

member-spot : (z : Spot) (start at : ℕ) → Spotted z start at → Spotted (member_spot z) start (at + 3) × (start + 3 ≤ at + 3)
unfolding member_spot
member-spot top start at s = (ap (λ n. n + 3) s, omega arith)
member-spot leading start at s = (omega arith, omega arith)
member-spot within start at s = (omega arith, omega arith)

-- where there are no depths left there is a number
too-deep : (u : Under) (at k : ℕ) (y : Says) → first k (say_fault u 0 at y) ≡ 0 → ⊥
unfolding say_fault
too-deep u at k y h = by (role_ok y u at) (first_fine _ _ (first_fine _ _ (first_fine _ _ h).1).1).1
  where
    by : (b : Bool) → pick_n b (pick_n true 14 0) 12 ≡ 0 → ⊥
    by true e = unfold pick_n in omega arith
    by false e = unfold pick_n in omega arith

no-earlier : (t : List ℕ) → Told t [] []
unfolding meets meets_any
no-earlier t g l h s = refl

-- a kind below 28 holds no others
single-at : (F : ℕ → Walk) (t : List ℕ) (at k n : ℕ) → k < 28 → body_mark k ≡ n → kind_at F t at k ≡ Fine (at + (1 + n))
unfolding kind_at pick_w
single-at F t at k n l e =
    let f : at + 1 + n ≡ at + (1 + n) = omega arith in
    rw (
      ne_eqb k 28 (λ e. omega arith),
      ne_eqb k 29 (λ e. omega arith),
      ne_eqb k 30 (λ e. omega arith),
      ne_eqb k 31 (λ e. omega arith),
      ne_eqb k 32 (λ e. omega arith),
      e,
      f,
    )

module _ (t : List ℕ) (b : Bytes t) (q : Ids) (trace : Bool) (seen : List ℕ) (known : Sees t q trace seen) (u : Under) where
  module _ (f : Spot → Parser Class) (F : ℕ → Walk) (h : Walks t q trace seen known u.start f F) (z : Spot) (at : ℕ)
      (s : Spotted z u.start at) where
    longer : (n : ℕ) → at < at + (1 + n)
    longer n = omega arith

    single-tie : (n : ℕ) (y : Said) (k : Shape) → Single k → (x : List ℕ) → Rest t (at + (1 + n)) x
        → Tied t trace seen (λ c e. at < e) (parse_shape q f z y k x) (Fine (at + (1 + n)))
    unfolding parse_shape
    single-tie n y k bits x r = both-good (longer n) r
    single-tie n y k lebs x r = both-good (longer n) r
    single-tie n y k signed_lebs x r = both-good (longer n) r
    single-tie n y k to_zero x r = both-good (longer n) r
    single-tie n y k texts x r = both-good (longer n) r
    single-tie n y k blobs x r = both-good (longer n) r
    single-tie n y k texts_of x r = both-good (longer n) r
    single-tie n y k blobs_of x r = both-good (longer n) r

    shape-tie : (k n : ℕ) (w : Shape) → Shaped k n w → (y : Said) → plain y ≡ say_of k t at → body_mark k ≡ n → kind_fault k u.start at ≡ 0
        → (x : List ℕ) → Rest t (at + (1 + n)) x → Tied t trace seen (λ c e. at < e) (parse_shape q f z y w x) (kind_at F t at k)
    unfolding parse_shape kind_at pick_w say_of sayings say plain
    shape-tie k n w (single l g) y e m d x r = rw (single-at F t at k n l m) (single-tie n y w g x r)
    shape-tie k n w structured y e m d x r =
        let c : y.count ≡ byte_at t (at + 1) = ap (λ (v : Says). v.count) e in
        let g = member-spot z u.start at s in
        rw c (made-tie t trace seen
        (members-tie t q trace seen known u.start f F h (byte_at t (at + 1)) (at + 3) (member_spot z) x r g.0 g.1)
        (structure y.align)
        (λ cs e (k : at + 3 ≤ e). le_trans (omega arith) k))
    shape-tie k n w static y e m d x r =
        let p : u.start + 3 < at + 4 = omega (arith, past-root z 29 u.start at s d (λ e. omega arith)) in
        made-tie t trace seen (h within (at + 4) x r p) (static_array y.count y.align)
        (λ c e (k : at + 4 < e). le_trans (omega arith) k)
    shape-tie k n w dynamic y e m d x r =
        let p : u.start + 3 < at + 3 = omega (arith, past-root z 30 u.start at s d (λ e. omega arith)) in
        made-tie t trace seen (h within (at + 3) x r p) (dynamic_array y.reads y.align)
        (λ c e (k : at + 3 < e). le_trans (omega arith) k)
    shape-tie k n w optional y e m d x r =
        let c : y.count ≡ byte_at t (at + 2) = ap (λ (v : Says). v.count) e in
        let p : u.start + 3 < at + 3 = omega (arith, past-root z 31 u.start at s d (λ e. omega arith)) in
        rw c (then_tie t trace seen
        (ranges-tie t q trace seen known (at + 3) [] [] (no-earlier t) (byte_at t (at + 2)) (at + 3) x None r refl) _ _
        (λ rs e v (k : Read t (at + 3) (at + 3) (byte_at t (at + 2)) None rs e) r'.
        let past : u.start + 3 < e = omega (arith, k.on) in
        made-tie t trace seen (h within e v r' past) (selected y.reads rs) (λ c e' (l : e < e'). le_trans (omega (arith, k.on)) l)))
    shape-tie k n w variant y e m d x r =
        let c : y.count ≡ byte_at t (at + 2) = ap (λ (v : Says). v.count) e in
        let p : u.start + 3 ≤ at + 3 = omega (arith, past-root z 32 u.start at s d (λ e. omega arith)) in
        let first_range : at + 3 + 2 ≡ at + 5 = omega arith in
        rw c (made-tie t trace seen
        (options-tie t q trace seen known u.start f F h (at + 5) (byte_at t (at + 2)) (at + 3) x (None, []) [] r first_range
        (no-earlier t) p)
        (λ os. a_variant y.reads (the_sign os.0) os.1) (λ os e (k : at + 3 ≤ e). le_trans (omega arith) k))

    body-tie : (k n : ℕ) (v : Record) → Stands t at k n v → (n ≡ no_kind → ⊥) → body_mark k ≡ n → kind_fault k u.start at ≡ 0
        → (x : List ℕ) → Rest t (at + (1 + n)) x → Tied t trace seen (λ c e. at < e) (parse_body q f z v x) (kind_at F t at k)
    unfolding parse_body
    body-tie k n v nothing w m d x r = absurd (w refl)
    body-tie k n v a_preamble w m d x r = absurd (omega (arith, kind-fine 1 u.start at d))
    body-tie k n v a_trace w m d x r = absurd (omega (arith, kind-fine 2 u.start at d))
    body-tie k n v a_clock w m d x r = absurd (omega (arith, kind-fine 3 u.start at d))
    body-tie k n v a_stream w m d x r = absurd (omega (arith, kind-fine 4 u.start at d))
    body-tie k n v an_event w m d x r = absurd (omega (arith, kind-fine 5 u.start at d))
    body-tie k n v a_root w m d x r = absurd (omega (arith, kind-fine 6 u.start at d))
    body-tie k n v (a_class {y = y} l g c i e p) w m d x r = shape-tie k n y.shape p y e m d x r
    body-tie k n v a_range w m d x r = absurd (omega (arith, kind-fine 33 u.start at d))
    body-tie k n v an_option w m d x r = absurd (omega (arith, kind-fine 34 u.start at d))

  pub class-tie : (left : ℕ) → Walks t q trace seen known u.start (parse_class q (ruled u) left) (class_at u left t)
  unfolding parse_class class_at class_fault says_at
  class-tie zero z at x r s =
      one-tie t trace seen q known at x r (rules_fault (ruled u) z true) (class-late (ruled u) z true) _
      (λ w. class-agrees t b u z 0 at _ _ _ (stands t at x r) w.known s) _ _ (λ w e. absurd (too-deep u at _ _ e))
  class-tie (suc left) z at x r s =
      one-tie t trace seen q known at x r (rules_fault (ruled u) z false) (class-late (ruled u) z false) _
      (λ w. rw (eqb-suc-zero left) at (class-agrees t b u z (suc left) at _ _ _ (stands t at x r) w.known s)) _ _ (λ w e.
      body-tie (parse_class q (ruled u) left) (class_at u left t) (class-tie left) z at s _ _ _ (stands t at x r) w.known refl
      (first_fine _ _ e).0
      (behind x) (rest-behind t at x r w _ refl))
