-- The normaliser: ring expressions are brought to a sorted list of monomials with signed coefficients, and the form has the expression's value in every ring.
-- Everything that computes is an abbreviation, so that it computes wherever it stands. Branches are cases of an `elim`, so that what is not taken is not computed.
use mathlib.Core.Path.{◌≡◌, refl, sym, ap, ap₂, subst}
use mathlib.Core.List.{List, [], ◌∷◌}
use Prim.Native.Nat.{ℕ, zero, suc, compare, Ordering}
use lib.Dec.{T, leb, compare_is_eq, eqb→eq}
use lib.IntN.{ℤ, pos, negsuc, neg_ℤ, ◌+ℤ◌, ◌*ℤ◌}
use mathlib.Core.Bool.{Bool, true, false}
use Rattle.decay.proofs.Algebra.Ring.{Ring, ⊕_zero_r, ⊕_left_comm, ⊕_swap, ⊗_left_comm, ⊗_swap, distrib_l, ⊗_zero_r, from_difference}

-- an expression over numbered variables
infixl 6 ◌:+◌
infixl 7 ◌:*◌
infix 8 :-◌
pub data Expr : Type 0 where
  var : ℕ → Expr
  con : ℤ → Expr
  ◌:+◌ : Expr → Expr → Expr
  ◌:*◌ : Expr → Expr → Expr
  :-◌ : Expr → Expr

-- a product of variables, by rising numbers
pub data Mono : Type 0 where
  unit : Mono
  factor : ℕ → Mono → Mono

-- a sum of monomials with coefficients, by falling monomials
pub data Poly : Type 0 where
  nil : Poly
  term : ℤ → Mono → Poly → Poly

-- ---- the computation

-- the order of monomials by exponents, the first variable first
abbrev pub cmp : Mono → Mono → Ordering
cmp unit unit = Ordering.eq
cmp unit (factor j n) = Ordering.lt
cmp (factor i m) unit = Ordering.gt
cmp (factor i m) (factor j n) =
    elim (compare i j) as (λ _. Ordering) [ Ordering.lt ↦ Ordering.gt | Ordering.eq ↦ cmp m n | Ordering.gt ↦ Ordering.lt ]

abbrev pub insert : ℕ → Mono → Mono
insert i unit = factor i unit
insert i (factor j m) = elim (leb i j) as (λ _. Mono) [ true ↦ factor i (factor j m) | false ↦ factor j (insert i m) ]

abbrev pub product : Mono → Mono → Mono
product unit n = n
product (factor i m) n = insert i (product m n)

-- one more term, unless its coefficient is 0
abbrev pub join : ℤ → Mono → Poly → Poly
join (pos zero) m p = p
join (pos (suc k)) m p = term (pos (suc k)) m p
join (negsuc k) m p = term (negsuc k) m p

-- the term c m and what `rest` adds, put in order into a polynomial
abbrev pub merge : ℤ → Mono → (Poly → Poly) → Poly → Poly
merge c m rest nil = term c m (rest nil)
merge c m rest (term d n q) =
    elim (cmp m n) as (λ _. Poly) [
      | Ordering.lt ↦ term d n (merge c m rest q)
      | Ordering.eq ↦ join (c +ℤ d) m (rest q)
      | Ordering.gt ↦ term c m (rest (term d n q))
    ]

abbrev pub add : Poly → Poly → Poly
add nil q = q
add (term c m p) q = merge c m (λ r. add p r) q

abbrev pub scale : ℤ → Mono → Poly → Poly
scale c m nil = nil
scale c m (term d n q) = term (c *ℤ d) (product m n) (scale c m q)

abbrev pub mul : Poly → Poly → Poly
mul nil q = nil
mul (term c m p) q = add (scale c m q) (mul p q)

abbrev pub norm : Expr → Poly
norm (var i) = term (pos 1) (factor i unit) nil
norm (con c) = join c unit nil
norm (a :+ b) = add (norm a) (norm b)
norm (a :* b) = mul (norm a) (norm b)
norm (:- a) = scale (negsuc 0) unit (norm a)

-- ---- reduction by polynomials that are known to be 0

abbrev pub coefficient : Mono → Poly → ℤ
coefficient m nil = pos 0
coefficient m (term c n p) =
    elim (cmp m n) as (λ _. ℤ) [ Ordering.lt ↦ coefficient m p | Ordering.eq ↦ c | Ordering.gt ↦ pos 0 ]

-- |c| × p − (± d) × z: where d is p's coefficient at z's leading monomial and c is z's own, that monomial goes
abbrev pub balance : ℤ → ℤ → Poly → Poly → Poly
balance (pos zero) d p z = p
balance (pos (suc n)) d p z = add (scale (pos (suc n)) unit p) (scale (neg_ℤ d) unit z)
balance (negsuc n) d p z = add (scale (pos (suc n)) unit p) (scale d unit z)

abbrev pub clear_at : ℤ → ℤ → Poly → Poly → Poly
clear_at c (pos zero) p z = p
clear_at c (pos (suc k)) p z = balance c (pos (suc k)) p z
clear_at c (negsuc k) p z = balance c (negsuc k) p z

abbrev pub clear : Poly → Poly → Poly
clear nil p = p
clear (term c m z) p = clear_at c (coefficient m p) p (term c m z)

-- the given polynomials, each cleared by those before it, clear p in turn
abbrev pub eliminate : (Poly → Poly) → List Poly → Poly → Poly
eliminate f [] p = f p
eliminate f (z ∷ zs) p = let y = f z in eliminate (λ q. clear y (f q)) zs p

-- What is left over of a wrong identity: an empty type that carries the polynomial, so that a hole there shows it.
pub data LeftOver (p : Poly) : Type 0 where

abbrev pub Vanishes : Poly → Type 0
Vanishes nil = Unit {0}
Vanishes (term c m p) = LeftOver (term c m p)

-- ---- it is right

cmp_factor : (i j : ℕ) (m n : Mono) → (cmp m n ≡ Ordering.eq → m ≡ n) → (o : Ordering) → compare i j ≡ o
    → (elim o as (λ _. Ordering) [ Ordering.lt ↦ Ordering.gt | Ordering.eq ↦ cmp m n | Ordering.gt ↦ Ordering.lt ]) ≡ Ordering.eq
    → factor i m ≡ factor j n
cmp_factor i j m n rest Ordering.lt k h = cc
cmp_factor i j m n rest Ordering.eq k h = ap₂ factor (eqb→eq i j (subst (λ o. T (compare_is_eq o)) (sym k) tt)) (rest h)
cmp_factor i j m n rest Ordering.gt k h = cc

cmp_eq : (m n : Mono) → cmp m n ≡ Ordering.eq → m ≡ n
cmp_eq unit unit e = refl
cmp_eq unit (factor j n) e = cc
cmp_eq (factor i m) unit e = cc
cmp_eq (factor i m) (factor j n) e = cmp_factor i j m n (cmp_eq m n) (compare i j) refl e

module _ (R : Ring) where
  infix 4 ◌~◌
  infixl 6 ◌⊕◌
  infixl 7 ◌⊗◌
  infix 8 ⊖◌
  infixr 3 ◌⨾◌
  open R use {Carrier, ◌~◌, ◌⊕◌, ◌⊗◌, ⊖◌, whole, same, back, chain, ⊕_cong, ⊗_cong, ⊕_assoc, ⊕_comm, ⊕_zero, ⊗_assoc, ⊗_comm, ⊗_one, ⊗_zero, distrib, ⊖_times, whole-⊕, whole-⊗, cancel}

  -- the value of variable i
  abbrev pub look : List Carrier → ℕ → Carrier
  look [] i = whole (pos 0)
  look (v ∷ vs) zero = v
  look (v ∷ vs) (suc i) = look vs i

  abbrev pub eval : List Carrier → Expr → Carrier
  eval vs (var i) = look vs i
  eval vs (con c) = whole c
  eval vs (a :+ b) = eval vs a ⊕ eval vs b
  eval vs (a :* b) = eval vs a ⊗ eval vs b
  eval vs (:- a) = ⊖ (eval vs a)

  abbrev eval_m : List Carrier → Mono → Carrier
  eval_m vs unit = whole (pos 1)
  eval_m vs (factor i m) = look vs i ⊗ eval_m vs m

  abbrev eval_p : List Carrier → Poly → Carrier
  eval_p vs nil = whole (pos 0)
  eval_p vs (term c m p) = whole c ⊗ eval_m vs m ⊕ eval_p vs p

  ◌⨾◌ : {a b c : Carrier} → a ~ b → b ~ c → a ~ c
  p ⨾ q = chain p q

  eq→~ : {a b : Carrier} → a ≡ b → a ~ b
  eq→~ {a} e = subst (λ x. a ~ x) e (same a)

  insert_ok : (vs : List Carrier) (i : ℕ) (m : Mono) → eval_m vs (insert i m) ~ look vs i ⊗ eval_m vs m
  insert_ok vs i unit = same _
  insert_ok vs i (factor j m) = go (insert_ok vs i m) (leb i j)
    where
      go : eval_m vs (insert i m) ~ look vs i ⊗ eval_m vs m → (b : Bool)
          → eval_m vs (elim b as (λ _. Mono) [ true ↦ factor i (factor j m) | false ↦ factor j (insert i m) ]) ~ look vs i ⊗ (look vs j ⊗ eval_m vs m)
      go rest true = same _
      go rest false = ⊗_cong (same _) rest ⨾ ⊗_left_comm R (look vs j) (look vs i) (eval_m vs m)

  product_ok : (vs : List Carrier) (m n : Mono) → eval_m vs (product m n) ~ eval_m vs m ⊗ eval_m vs n
  product_ok vs unit n = back (⊗_one _)
  product_ok vs (factor i m) n =
      insert_ok vs i (product m n) ⨾ ⊗_cong (same _) (product_ok vs m n) ⨾ back (⊗_assoc (look vs i) (eval_m vs m) (eval_m vs n))

  join_ok : (vs : List Carrier) (c : ℤ) (m : Mono) (p : Poly) → eval_p vs (join c m p) ~ whole c ⊗ eval_m vs m ⊕ eval_p vs p
  join_ok vs (pos zero) m p = back (⊕_cong (⊗_zero _) (same _) ⨾ ⊕_zero _)
  join_ok vs (pos (suc k)) m p = same _
  join_ok vs (negsuc k) m p = same _

  merge_ok : (vs : List Carrier) (c : ℤ) (m : Mono) (rest : Poly → Poly) (P : Carrier) → ((q : Poly) → eval_p vs (rest q) ~ P ⊕ eval_p vs q)
      → (q : Poly) → eval_p vs (merge c m rest q) ~ whole c ⊗ eval_m vs m ⊕ P ⊕ eval_p vs q
  merge_ok vs c m rest P h nil = ⊕_cong (same _) (h nil) ⨾ back (⊕_assoc _ _ _)
  merge_ok vs c m rest P h (term d n q) = go (merge_ok vs c m rest P h q) (cmp m n) refl
    where
      C : Carrier
      C = whole c ⊗ eval_m vs m

      D : Carrier
      D = whole d ⊗ eval_m vs n

      go : eval_p vs (merge c m rest q) ~ C ⊕ P ⊕ eval_p vs q → (o : Ordering) → cmp m n ≡ o
          → eval_p vs (elim o as (λ _. Poly) [ Ordering.lt ↦ term d n (merge c m rest q) | Ordering.eq ↦ join (c +ℤ d) m (rest q) | Ordering.gt ↦ term c m (rest (term d n q)) ])
          ~ C ⊕ P ⊕ (D ⊕ eval_p vs q)
      go ih Ordering.lt k = ⊕_cong (same _) ih ⨾ ⊕_left_comm R _ _ _
      go ih Ordering.eq k =
          join_ok vs (c +ℤ d) m (rest q) ⨾ ⊕_cong (⊗_cong (whole-⊕ c d) (same _) ⨾ distrib _ _ _ ⨾ ⊕_cong (same _) (eq→~ (ap (λ x. whole d ⊗ eval_m vs x) (cmp_eq m n k)))) (h q) ⨾ ⊕_swap R _ _ _ _
      go ih Ordering.gt k = ⊕_cong (same _) (h (term d n q)) ⨾ back (⊕_assoc _ _ _)

  add_ok : (vs : List Carrier) (p q : Poly) → eval_p vs (add p q) ~ eval_p vs p ⊕ eval_p vs q
  add_ok vs nil q = back (⊕_zero _)
  add_ok vs (term c m p) q = merge_ok vs c m (λ r. add p r) (eval_p vs p) (λ r. add_ok vs p r) q

  scale_ok : (vs : List Carrier) (c : ℤ) (m : Mono) (p : Poly) → eval_p vs (scale c m p) ~ whole c ⊗ eval_m vs m ⊗ eval_p vs p
  scale_ok vs c m nil = back (⊗_zero_r R _)
  scale_ok vs c m (term d n p) =
      ⊕_cong (⊗_cong (whole-⊗ c d) (product_ok vs m n) ⨾ ⊗_swap R _ _ _ _) (scale_ok vs c m p) ⨾ back (distrib_l R _ _ _)

  mul_ok : (vs : List Carrier) (p q : Poly) → eval_p vs (mul p q) ~ eval_p vs p ⊗ eval_p vs q
  mul_ok vs nil q = back (⊗_zero _)
  mul_ok vs (term c m p) q =
      add_ok vs (scale c m q) (mul p q) ⨾ ⊕_cong (scale_ok vs c m q) (mul_ok vs p q) ⨾ back (distrib _ _ _)

  pub norm_ok : (vs : List Carrier) (e : Expr) → eval_p vs (norm e) ~ eval vs e
  norm_ok vs (var i) = ⊕_zero_r R _ ⨾ ⊗_one _ ⨾ ⊗_comm _ _ ⨾ ⊗_one _
  norm_ok vs (con c) = join_ok vs c unit nil ⨾ ⊕_zero_r R _ ⨾ ⊗_comm _ _ ⨾ ⊗_one _
  norm_ok vs (a :+ b) = add_ok vs (norm a) (norm b) ⨾ ⊕_cong (norm_ok vs a) (norm_ok vs b)
  norm_ok vs (a :* b) = mul_ok vs (norm a) (norm b) ⨾ ⊗_cong (norm_ok vs a) (norm_ok vs b)
  norm_ok vs (:- a) =
      scale_ok vs (negsuc 0) unit (norm a) ⨾ ⊗_cong (⊗_comm _ _ ⨾ ⊗_one _) (norm_ok vs a) ⨾ back (⊖_times _)

  vanishing : (vs : List Carrier) (p : Poly) → Vanishes p → eval_p vs p ~ whole (pos 0)
  vanishing vs nil t = same _
  vanishing vs (term c m p) t = elim t [ ]

  -- two expressions whose difference comes to nothing have equal values
  pub solve : (vs : List Carrier) (l r : Expr) → Vanishes (norm (l :+ :- r)) → eval vs l ~ eval vs r
  solve vs l r t =
      from_difference R (eval vs l) (eval vs r) (back (norm_ok vs (l :+ :- r)) ⨾ vanishing vs (norm (l :+ :- r)) t)

  -- ---- reading an expression off a term

  -- the way in which a is made of the variables vs
  pub data Quoted (vs : List Carrier) : Carrier → Type 0 where
    q_var : (i : ℕ) → Quoted vs (look vs i)
    q_con : (c : ℤ) → Quoted vs (whole c)
    q_sum : {a b : Carrier} → Quoted vs a → Quoted vs b → Quoted vs (a ⊕ b)
    q_product : {a b : Carrier} → Quoted vs a → Quoted vs b → Quoted vs (a ⊗ b)
    q_minus : {a : Carrier} → Quoted vs a → Quoted vs (⊖ a)
    q_as : {a b : Carrier} → a ~ b → Quoted vs a → Quoted vs b

  abbrev pub expr : (vs : List Carrier) {a : Carrier} → Quoted vs a → Expr
  expr vs (q_var i) = var i
  expr vs (q_con c) = con c
  expr vs (q_sum p q) = expr vs p :+ expr vs q
  expr vs (q_product p q) = expr vs p :* expr vs q
  expr vs (q_minus p) = :- expr vs p
  expr vs (q_as e p) = expr vs p

  expr_ok : (vs : List Carrier) {a : Carrier} (q : Quoted vs a) → eval vs (expr vs q) ~ a
  expr_ok vs (q_var i) = same _
  expr_ok vs (q_con c) = same _
  expr_ok vs (q_sum p q) = ⊕_cong (expr_ok vs p) (expr_ok vs q)
  expr_ok vs (q_product p q) = ⊗_cong (expr_ok vs p) (expr_ok vs q)
  expr_ok vs (q_minus p) = ⊖_times _ ⨾ ⊗_cong (same _) (expr_ok vs p) ⨾ back (⊖_times _)
  expr_ok vs (q_as e p) = expr_ok vs p ⨾ e

  -- both sides of an equation
  pub data Sides (vs : List Carrier) (a b : Carrier) : Type 0 where
    sides : Quoted vs a → Quoted vs b → Sides vs a b

  abbrev pub gap : (vs : List Carrier) {a b : Carrier} → Sides vs a b → Poly
  gap vs (sides p q) = norm (expr vs p :+ :- expr vs q)

  pub by_normal_form : (vs : List Carrier) {a b : Carrier} (q : Sides vs a b) → Vanishes (gap vs q) → a ~ b
  by_normal_form vs (sides p q) t = back (expr_ok vs p) ⨾ solve vs (expr vs p) (expr vs q) t ⨾ expr_ok vs q

  -- ---- the same where some terms are known to be 0: any multiples of them, signs and whole factors included, are found

  -- terms that are 0
  pub data Known : List Carrier → Type 0 where
    known_none : Known []
    known : {z : Carrier} {zs : List Carrier} → z ~ whole (pos 0) → Known zs → Known (z ∷ zs)

  pub data QuotedAll (vs : List Carrier) : List Carrier → Type 0 where
    q_none : QuotedAll vs []
    q_more : {z : Carrier} {zs : List Carrier} → Quoted vs z → QuotedAll vs zs → QuotedAll vs (z ∷ zs)

  abbrev pub polys : (vs : List Carrier) {zs : List Carrier} → QuotedAll vs zs → List Poly
  polys vs q_none = []
  polys vs (q_more q qs) = norm (expr vs q) ∷ polys vs qs

  -- both sides of an equation, and the terms that are 0
  pub data Given (vs zs : List Carrier) (a b : Carrier) : Type 0 where
    given : QuotedAll vs zs → Quoted vs a → Quoted vs b → Given vs zs a b

  abbrev pub rest : (vs : List Carrier) {zs : List Carrier} {a b : Carrier} → Given vs zs a b → Poly
  rest vs (given zs p q) = eliminate (λ r. r) (polys vs zs) (norm (expr vs p :+ :- expr vs q))

  -- p is 0 exactly if q is
  abbrev Alike : List Carrier → Poly → Poly → Type 0
  Alike vs p q = (eval_p vs p ~ whole (pos 0) → eval_p vs q ~ whole (pos 0)) × (eval_p vs q ~ whole (pos 0) → eval_p vs p ~ whole (pos 0))

  times_one : (c : ℤ) → whole c ⊗ whole (pos 1) ~ whole c
  times_one c = ⊗_comm _ _ ⨾ ⊗_one _

  combined : (vs : List Carrier) (n : ℕ) (k : ℤ) (p z : Poly) → eval_p vs z ~ whole (pos 0)
      → eval_p vs (add (scale (pos (suc n)) unit p) (scale k unit z)) ~ whole (pos (suc n)) ⊗ eval_p vs p
  combined vs n k p z h =
      add_ok vs (scale (pos (suc n)) unit p) (scale k unit z) ⨾ ⊕_cong (scale_ok vs (pos (suc n)) unit p ⨾ ⊗_cong (times_one _) (same _)) (scale_ok vs k unit z ⨾ ⊗_cong (same _) h ⨾ ⊗_zero_r R _) ⨾ ⊕_zero_r R _

  combined_alike : (vs : List Carrier) (n : ℕ) (k : ℤ) (p z : Poly) → eval_p vs z ~ whole (pos 0)
      → Alike vs p (add (scale (pos (suc n)) unit p) (scale k unit z))
  combined_alike vs n k p z h =
      (λ e. combined vs n k p z h ⨾ ⊗_cong (same _) e ⨾ ⊗_zero_r R _, λ e. cancel n _ (back (combined vs n k p z h) ⨾ e))

  balance_alike : (vs : List Carrier) (c d : ℤ) (p z : Poly) → eval_p vs z ~ whole (pos 0) → Alike vs p (balance c d p z)
  balance_alike vs (pos zero) d p z h = (λ e. e, λ e. e)
  balance_alike vs (pos (suc n)) d p z h = combined_alike vs n (neg_ℤ d) p z h
  balance_alike vs (negsuc n) d p z h = combined_alike vs n d p z h

  clear_at_alike : (vs : List Carrier) (c d : ℤ) (p z : Poly) → eval_p vs z ~ whole (pos 0) → Alike vs p (clear_at c d p z)
  clear_at_alike vs c (pos zero) p z h = (λ e. e, λ e. e)
  clear_at_alike vs c (pos (suc k)) p z h = balance_alike vs c (pos (suc k)) p z h
  clear_at_alike vs c (negsuc k) p z h = balance_alike vs c (negsuc k) p z h

  clear_alike : (vs : List Carrier) (z p : Poly) → eval_p vs z ~ whole (pos 0) → Alike vs p (clear z p)
  clear_alike vs nil p h = (λ e. e, λ e. e)
  clear_alike vs (term c m z) p h = clear_at_alike vs c (coefficient m p) p (term c m z) h

  quoted_zero : (vs : List Carrier) {z : Carrier} (q : Quoted vs z) → z ~ whole (pos 0) → eval_p vs (norm (expr vs q)) ~ whole (pos 0)
  quoted_zero vs q h = norm_ok vs (expr vs q) ⨾ expr_ok vs q ⨾ h

  eliminate_ok : (vs : List Carrier) {zs : List Carrier} (f : Poly → Poly) → ((q : Poly) → Alike vs q (f q)) → Known zs
      → (qs : QuotedAll vs zs) (p : Poly) → eval_p vs (eliminate f (polys vs qs) p) ~ whole (pos 0) → eval_p vs p ~ whole (pos 0)
  eliminate_ok vs f alike known_none q_none p h = (alike p).1 h
  eliminate_ok vs f alike (known e ks) (q_more q qs) p h =
      let y : Poly = f (norm (expr vs q)) in
      let y_zero : eval_p vs y ~ whole (pos 0) = (alike (norm (expr vs q))).0 (quoted_zero vs q e) in
      eliminate_ok vs (λ r. clear y (f r)) (λ r. (λ x. (clear_alike vs y (f r) y_zero).0 ((alike r).0 x), λ x. (alike r).1 ((clear_alike vs y (f r) y_zero).1 x))) ks qs p h

  pub by_known_zeros : (vs : List Carrier) {zs : List Carrier} {a b : Carrier} → Known zs → (q : Given vs zs a b) → Vanishes (rest vs q) → a ~ b
  by_known_zeros vs ks (given zs p q) t =
      back (expr_ok vs p) ⨾ from_difference R _ _ (back (norm_ok vs (expr vs p :+ :- expr vs q)) ⨾ eliminate_ok vs (λ r. r) (λ r. (λ e. e, λ e. e)) ks zs (norm (expr vs p :+ :- expr vs q)) (vanishing vs (rest vs (given zs p q)) t)) ⨾ expr_ok vs q
