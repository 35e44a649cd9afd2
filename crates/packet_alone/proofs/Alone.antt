-- The law of a packet, as it is used: what reads in place reads among its own bytes, and the other way.
use Rattle.std.specs.Prelude.{Option}
use mathlib.Core.Path.{◌≡◌, refl, sym, ap, ◌∙◌, subst}
use mathlib.Core.Logic.{inl, inr}
use Prim.Native.Nat.{ℕ, ◌*◌, ◌≤◌}
use native.Mathlib.Omega.{arith}
use mathlib.Core.List.{List}
use lib.ListN.{length}
use Rattle.rules.specs.declared.BitPlace.{BitPlace}
use Rattle.rules.specs.declared.Entry.{Entry}
use Rattle.rules.specs.declared.Stop.{Stop}
use Rattle.rules.specs.Step.{State, Out, stop, go}
use Rattle.rules.specs.Table.{Asked}
use Rattle.rules.specs.Field.{Env}
use Rattle.laws.specs.Between.{Between}
use Rattle.packet_alone.specs.Behind.{packet}
use Rattle.laws.specs.Far.{away, far_all, far_stop, far, far_out, Short, Rel}
use Rattle.laws.specs.Far.{Like}
use Rattle.packet_alone.proofs.Beside.{same, e₀, e₁, tail-packet}

module _ (t : Asked) (b b' : List ℕ) (p p' : BitPlace) (y : Like (e₀ t b b' p p') (e₁ t b b' p p')) (rest : ℕ) (i : Option ℕ) where
  abbrev pub E₀ : Env
  E₀ = e₀ t b b' p p'

  abbrev pub E₁ : Env
  E₁ = e₁ t b b' p p'

  abbrev pub here : State → Out
  here s = packet t b p rest i s

  abbrev pub there : State → Out
  there s = packet t b' p' rest i s

  -- a packet that went through
  pub record Went (o : Out) (fs : List Entry) (x : State) : Type 0 where
    pub es : List Entry
    pub u : State
    pub goes : o ≡ go es u
    pub entries : fs ≡ far_all E₀ E₁ es
    pub state : x ≡ far E₀ E₁ same u

  of-far : (o : Out) (fs : List Entry) (x : State) → go fs x ≡ far_out E₀ E₁ same o → Went o fs x
  unfolding far_out
  of-far (stop es v) fs x q = let z : ◌≡◌ {A = ℕ} 0 1 = cc in absurd (omega arith)
  of-far (go es u) fs x q =
      let r : fs ≡ far_all E₀ E₁ es = cc in
      let z : x ≡ far E₀ E₁ same u = cc in
      record { es = es; u = u; goes = refl; entries = r; state = z }

  -- in place, and it ends where its bytes here do or before: it reads here, and lists the same
  pub reads-alone : (s : State) → Between E₀ s.place.0 → (fs : List Entry) (x : State) → there (far E₀ E₁ same s) ≡ go fs x
      → x.place.0 ≤ away E₀ E₁ (8 * length b) → Went (here s) fs x
  reads-alone s d fs x q h = by ((tail-packet t b b' p p' y rest i).rel s d)
    where
      by : Rel E₀ E₁ same (here s) (there (far E₀ E₁ same s)) → Went (here s) fs x
      by (inl r) = of-far (here s) fs x (sym q ∙ r)
      by (inr c) = absurd (omega (arith, h, c.beyond fs x q))

  -- here, and it goes through or stops by anything but 22, 25 and 34: it does the same in place
  pub reads-there : (s : State) → Between E₀ s.place.0 → (es : List Entry) (u : State) → here s ≡ go es u
      → there (far E₀ E₁ same s) ≡ go (far_all E₀ E₁ es) (far E₀ E₁ same u)
  reads-there s d es u q = by ((tail-packet t b b' p p' y rest i).rel s d)
    where
      by : Rel E₀ E₁ same (here s) (there (far E₀ E₁ same s)) → there (far E₀ E₁ same s) ≡ go (far_all E₀ E₁ es) (far E₀ E₁ same u)
      by (inl r) = unfold far_out in (r ∙ ap (far_out E₀ E₁ same) q)
      by (inr c) = let z : stop c.es c.v ≡ go es u = sym c.stops ∙ q in let n : ◌≡◌ {A = ℕ} 0 1 = cc in absurd (omega arith)

  pub settled-there : (s : State) → Between E₀ s.place.0 → (es : List Entry) (v : Stop) → here s ≡ stop es v
      → (Short E₀ E₁ v.why → ⊥)
      → there (far E₀ E₁ same s) ≡ stop (far_all E₀ E₁ es) (far_stop E₀ E₁ v)
  settled-there s d es v q h = by ((tail-packet t b b' p p' y rest i).rel s d)
    where
      by : Rel E₀ E₁ same (here s) (there (far E₀ E₁ same s)) → there (far E₀ E₁ same s) ≡ stop (far_all E₀ E₁ es) (far_stop E₀ E₁ v)
      by (inl r) = unfold far_out in (r ∙ ap (far_out E₀ E₁ same) q)
      by (inr c) =
          let z : stop c.es c.v ≡ stop es v = sym c.stops ∙ q in
          let w : c.v ≡ v = cc in
          absurd (h (subst (λ k. Short E₀ E₁ k.why) w c.short))
