-- The locals of a function, in a walk by hand of its MIR.
--     type-of ls n         the type of local n, as the MIR spells it: a walk that writes it so compares it at no cost
--     of-local ! n refl    entry n of the context is the local's cell, and a copy of the local evaluates to what it holds
--     of_field ! n refl tt     the same of a copy of a field, where the local is a struct. The field's type and offset stay inside the law: written out at each use they would double with each declared type that the struct reaches
--     cells H E hs         the cells of the locals, the last local first. Each holds a value or is empty, and those beyond the list hs are empty
--     free ! n hs refl     the context is n entries and then the cells: the locals are freed, and the n entries are left
-- `type_of` and `cells` assume nothing, the others `Logic`.
use mathlib.Core.Path.{◌≡◌, refl, sym, subst}
use Prim.Native.Nat.{ℕ, zero, suc, ◌+◌}
use mathlib.Core.Option.{Option, none, some, IsSome}
use mathlib.Core.List.{List, [], ◌∷◌, ◌++◌}
use lib.ListN.{take}
use seplogic.Ra.Ura.{Ura}
use mir.Syntax.{Sym, Ty, ty_int, ty_bool, ty_float, ty_ptr, ty_ref, ty_array, ty_unit, ty_struct, ty_enum, ty_named, ty_param, ty_const, ty_array_p, Tys, Local, local, field, place, copy}
use mir.Val.{Val, Vals, vstruct}
use mir.Fields.{get_v}
use base.Fraction.{full_share}
use base.Logic.{SProp, ent, sep, via, id⊢}
use base.Fml.{Share, fat, froom, fdies}
use prog.Memory.{field_at, field_of}
use prog.Wp.{Heap, Env, Spot, spot_of, release}
use types.Logic.{Logic}
use types.Kit.{Item, ‵, raw, ◌⊛◌, mean, ⋆, ⊢++, push, nth, Goal, aim, frees, Step, step, ◌$◌, ◌∵◌, !, qed, by, move, split, join, use1, frame, done}
use types.Part.{Part, whole, sub, look_in}
use types.Run.{Walks, Opd, look, forget, stop, fld, from, load}

abbrev pub type_of : List Local → ℕ → Ty
type_of [] n = ty_bool
type_of (local t h ∷ ls) zero = t
type_of (local t h ∷ ls) (suc n) = type_of ls n

module _ {M : Type 1} {𝓤 : Ura M} {𝓛 : Logic 𝓤} {K : Type 0} {Γ : List (Item 𝓤)} {E : Env 𝓤 𝓛.H} {i : ℕ} {q : Share} where
  open 𝓛 use {H}

  pub of_local : K → (n : ℕ) {v : Val} → nth 𝓛 n Γ ≡ ‵ (fat q (spot_of 𝓤 H E i).0 (spot_of 𝓤 H E i).1 zero v) → Opd K 𝓛 Γ E (copy (place i [])) v
  of_local t n cell = load t (from t (stop t)) (look t n cell)

  module _ (t : K) (n : ℕ) {k : ℕ} {vs : Vals} where
    at_offset : {ν : Sym} {τs : Tys} {b : ℕ} (f : Option (Ty × ℕ)) → field_at zero τs k ≡ f → IsSome f → spot_of 𝓤 H E i ≡ (ty_struct ν τs, b, zero) → nth 𝓛 n Γ ≡ ‵ (fat q (ty_struct ν τs) b zero (vstruct vs)) → Opd K 𝓛 Γ E (copy (place i (field k ∷ []))) (get_v vs k)
    at_offset {ν} {τs} {b} (some (τ, d)) found ok = λ spot cell.
        load t (from t (subst (λ (p : Spot 𝓤 H). Walks K 𝓛 Γ E p (field k ∷ []) (τ, b, zero + d)) (sym spot) (fld t found (stop t))))
        (look_in t n (sub t k found (subst (λ (j : Item 𝓤). Part K 𝓛 j q (ty_struct ν τs) b zero (vstruct vs) (λ (u : Val). ‵ (fat q (ty_struct ν τs) b zero u))) (sym cell) (whole t))))
    at_offset none found ok = absurd ok

    at_type : (σ : Ty) {b : ℕ} → IsSome (field_of σ k) → spot_of 𝓤 H E i ≡ (σ, b, zero) → nth 𝓛 n Γ ≡ ‵ (fat q σ b zero (vstruct vs)) → Opd K 𝓛 Γ E (copy (place i (field k ∷ []))) (get_v vs k)
    at_type (ty_struct ν τs) ok = at_offset (field_at zero τs k) refl ok
    at_type (ty_int w) ok = absurd ok
    at_type ty_bool ok = absurd ok
    at_type (ty_float f) ok = absurd ok
    at_type ty_ptr ok = absurd ok
    at_type (ty_ref κ μ τ) ok = absurd ok
    at_type (ty_array τ m) ok = absurd ok
    at_type ty_unit ok = absurd ok
    at_type (ty_enum ν τss) ok = absurd ok
    at_type (ty_named ν θ) ok = absurd ok
    at_type (ty_param n) ok = absurd ok
    at_type (ty_const n) ok = absurd ok
    at_type (ty_array_p τ n) ok = absurd ok

    pub of_field : nth 𝓛 n Γ ≡ ‵ (fat q (spot_of 𝓤 H E i).0 (spot_of 𝓤 H E i).1 zero (vstruct vs)) → IsSome (field_of (spot_of 𝓤 H E i).0 k) → Opd K 𝓛 Γ E (copy (place i (field k ∷ []))) (get_v vs k)
    of_field cell ok = at_type (spot_of 𝓤 H E i).0 ok refl cell

-- what the cell of a local holds
pub data Held : Type 0 where
  empty : Held
  holds : Val → Held

module _ {M : Type 1} {𝓤 : Ura M} (H : Heap 𝓤) where
  abbrev cell : Ty × ℕ → Held → Item 𝓤
  cell e empty = ‵ (froom e.0 e.1 zero)
  cell e (holds v) = ‵ (fat full_share e.0 e.1 zero v)

  abbrev dies : Ty × ℕ → Item 𝓤
  dies e = ‵ (fdies e.0 e.1)

  -- the cells of the locals before the entries Γ, put there one by one
  abbrev before : Env 𝓤 H → List Held → List (Item 𝓤) → List (Item 𝓤)
  before [] hs Γ = Γ
  before (e ∷ E) [] Γ = before E [] (cell e empty ∷ dies e ∷ Γ)
  before (e ∷ E) (h ∷ hs) Γ = before E hs (cell e h ∷ dies e ∷ Γ)

  abbrev pub cells : Env 𝓤 H → List Held → List (Item 𝓤)
  cells E hs = before E hs []

module _ {M : Type 1} {𝓤 : Ura M} (𝓛 : Logic 𝓤) where
  open 𝓛 use {H}

  abbrev Freed : Ty × ℕ → SProp 𝓤
  Freed e = sep 𝓤 (mean 𝓛 (cell H e empty)) (mean 𝓛 (dies H e))

  -- what is left once the locals are freed, in two parts
  set_apart : (E : Env 𝓤 H) (P Q : SProp 𝓤) → ent 𝓤 (release 𝓤 H E (sep 𝓤 P Q)) (sep 𝓤 P (release 𝓤 H E Q))
  set_apart [] P Q = id⊢ 𝓤 (sep 𝓤 P Q)
  set_apart (e ∷ E) P Q =
      qed 𝓛 (raw (Freed e) ∷ raw (release 𝓤 H E (sep 𝓤 P Q)) ∷ []) ∵ move ! (1 ∷ []) $ use1 𝓛 (raw P ⊛ raw (release 𝓤 H E Q)) (set_apart E P Q) $ split ! $ frame ! $ move ! (1 ∷ []) $ frame ! $ done !

  -- the locals are freed with R kept
  module _ (R : SProp 𝓤) where
    frees_one : (e : Ty × ℕ) (h : Held) (Γ : List (Item 𝓤)) (P : SProp 𝓤) → ent 𝓤 (⋆ 𝓛 (raw R ∷ Γ)) P → ent 𝓤 (⋆ 𝓛 (raw R ∷ cell H e h ∷ dies H e ∷ Γ)) (sep 𝓤 (Freed e) P)
    frees_one e empty Γ P rest = qed 𝓛 (raw R ∷ cell H e empty ∷ dies H e ∷ Γ) ∵ move ! (1 ∷ 2 ∷ []) $ join ! $ frame ! $ by ! rest
    frees_one e (holds v) Γ P rest = qed 𝓛 (raw R ∷ cell H e (holds v) ∷ dies H e ∷ Γ) ∵ forget ! 1 refl $ move ! (1 ∷ 2 ∷ []) $ join ! $ frame ! $ by ! rest

    frees_all : (E : Env 𝓤 H) (hs : List Held) (Γ : List (Item 𝓤)) (P : SProp 𝓤) → ent 𝓤 (⋆ 𝓛 (raw R ∷ Γ)) P → ent 𝓤 (⋆ 𝓛 (raw R ∷ before H E hs Γ)) (release 𝓤 H E P)
    frees_all [] hs Γ P rest = rest
    frees_all (e ∷ E) [] Γ P rest = via 𝓤 _ (frees_all E [] (cell H e empty ∷ dies H e ∷ Γ) (sep 𝓤 (Freed e) P) (frees_one e empty Γ P rest)) (set_apart E (Freed e) P)
    frees_all (e ∷ E) (h ∷ hs) Γ P rest = via 𝓤 _ (frees_all E hs (cell H e h ∷ dies H e ∷ Γ) (sep 𝓤 (Freed e) P) (frees_one e h Γ P rest)) (set_apart E (Freed e) P)

module _ {M : Type 1} {𝓤 : Ura M} {𝓛 : Logic 𝓤} {K : Type 0} {Γ : List (Item 𝓤)} {E : Env 𝓤 𝓛.H} {g : Goal 𝓤 𝓛.H} where
  open 𝓛 use {H}

  pub free : K → (n : ℕ) (hs : List Held) → Γ ≡ take n Γ ++ cells H E hs → Step K 𝓛 (take n Γ) g Γ (frees E g)
  free t n hs e = step (λ s. record {
    prf =
        via 𝓤 _ (subst (λ (Δ : List (Item 𝓤)). ent 𝓤 (⋆ 𝓛 Γ) (⋆ 𝓛 Δ)) e (id⊢ 𝓤 (⋆ 𝓛 Γ)))
        (via 𝓤 _ (⊢++ 𝓛 (take n Γ) (cells H E hs))
        (via 𝓤 _ (push 𝓛 (raw (⋆ 𝓛 (take n Γ))) (cells H E hs)) (frees_all 𝓛 (⋆ 𝓛 (take n Γ)) E hs [] (aim 𝓤 H g) s.prf)));
  })
