-- No rule on credits is broken just where the term's clauses are even, and where its header has what it requires.
use Rattle.std.proofs.Common.{◌≡◌, ℕ, zero, suc, ◌-◌, ◌<◌, ◌≤◌, ◌⊎◌, inl, inr, refl, sym, ap, ◌∙◌, List, [], Bool, true, false, arith}
use Rattle.std.specs.Prelude.{◌↔◌, max}
use Rattle.credit_check.specs.fip_language.declared.FunKind.{FunKind}
use Rattle.credit_check.specs.fip_language.declared.FunKind.TheVariants.{Fip, Fbip, Fun}
use Rattle.credit_check.specs.fip_language.declared.Place.{Place}
use Rattle.credit_check.specs.fip_language.declared.rule.Rule.{Rule}
use Rattle.credit_check.specs.fip_language.declared.rule.Rule.TheVariants.{E56, E57, E58, E62}
use Rattle.credit_check.specs.fip_trees.declared.least.Violation.{Violation}
use Rattle.credit_check.specs.fip_trees.Least.{violation}
use Rattle.credit_check.specs.fip_trees.Tree.{Expression, Give, Tuple, Operation, Call, Match, Nested, Block, Last, Let, Clauses, NoClauses, MoreClauses, Pattern, Instance, Program, pattern_place, Argument}
use Rattle.fip_rules.specs.Marks.{Mark}
use Rattle.fip_rules.specs.World.{world, is_fip}
use Rattle.fip_rules.specs.Shapes.{Names, following, binders, shape}
use Rattle.credit_check.specs.Needs as N
use Rattle.credit_check.specs.Needs.{marked, takes, need_block, need_clause}
use Rattle.credit_check.specs.Credits.{Less, Unused, Differ, Breaks, BreaksBlock, BreaksClauses, BreaksInstance}
use Rattle.ownership_calculus.specs.Terms as T
use Rattle.ownership_calculus.specs.Terms.{Credit, Term, given}
use Rattle.ownership_calculus.specs.Rules.{Fits}
use Rattle.ownership_calculus.specs.Clean.{asks, Alike, Even, EvenLent, EvenTaken}
use Rattle.ownership_agreement.specs.Sized.{AreSizes, SizedPattern, SizedExpression, SizedBlock, SizedClauses}
use Rattle.ownership_agreement.specs.Bodies.{Scalars, variables, entering, nodes, inside, past_clause, matched, term, term_block, clauses}
use Rattle.ownership_agreement.proofs.Amounts.{IsOut, header_given, header_out, gives, gives_given, gives_out, asks_of, asks_last, asks_more, block_need, block_out}
use Rattle.fip_rules.proofs.fip_base.fip_language.Facts.{less_or_not as lt_or_le}

-- ---- nothing says so

abbrev pub None : (Violation → Type 0) → Type 0
None P = (v : Violation) → P v → ⊥

none_both : (A B : Type 0) (P Q : Violation → Type 0) → (A ↔ None P) → (B ↔ None Q) → (A × B) ↔ None (λ v. P v ⊎ Q v)
none_both A B P Q f g = (
  λ h v k. elim k as (λ x. ⊥) [ inl z ↦ f.0 h.0 v z | inr z ↦ g.0 h.1 v z ],
  λ h. (f.1 (λ v z. h v (inl z)), g.1 (λ v z. h v (inr z))),
)

nothing_is : Unit {0} ↔ None (λ v. ⊥)
nothing_is = (λ h v k. k, λ h. tt)

along : (A B X : Type 0) → (A ↔ B) → (B ↔ X) → A ↔ X
along A B X f g = (λ h. g.0 (f.0 h), λ h. f.1 (g.1 h))

-- f is nowhere less than g
less_none : (r : Rule) (q : Place) (i : ℕ) (f g : ℕ → ℕ) → ((k : ℕ) → 0 < k → k < 17 → g k ≤ f k) ↔ None (Less r q i f g)
less_none r q i f g = (
  λ h v l. absurd (let a = h l.0 l.1 l.2 in let b = l.3 in omega arith),
  λ h k a b. elim (lt_or_le (f k) (g k)) as (λ z. g k ≤ f k) [ inl z ↦ absurd (h (violation r q i k []) (k, a, b, z, refl)) | inr z ↦ z ],
)

pub in_or_out : (k : ℕ) → ((0 < k) × (k < 17)) ⊎ IsOut k
in_or_out zero = inr (inl refl)
in_or_out (suc k) = elim (lt_or_le (suc k) 17) as (λ z. ((0 < suc k) × (suc k < 17)) ⊎ IsOut (suc k)) [ inl z ↦ inl (omega arith, z) | inr z ↦ inr (inr z) ]

-- ---- clauses that are alike, whether they take or borrow

abbrev EvenOf : Bool → (ℕ → ℕ) → T.Clauses → Type 0
EvenOf true m cs = EvenTaken m cs
EvenOf false m cs = EvenLent m cs

even_last : (b : Bool) (m : ℕ → ℕ) (ys ks : List ℕ) (e : Term) → EvenOf b m (T.LastClause ys ks e) ↔ (Alike (gives b ks) e m × Even e)
even_last true m ys ks e = (λ h. h, λ h. h)
even_last false m ys ks e = (λ h. h, λ h. h)

even_more : (b : Bool) (m : ℕ → ℕ) (ys ks : List ℕ) (e : Term) (cs : T.Clauses) → EvenOf b m (T.MoreClauses ys ks e cs) ↔ ((Alike (gives b ks) e m × Even e) × EvenOf b m cs)
even_more true m ys ks e cs = (λ h. ((h.0, h.1), h.2), λ h. (h.0.0, h.0.1, h.1))
even_more false m ys ks e cs = (λ h. ((h.0, h.1), h.2), λ h. (h.0.0, h.0.1, h.1))

even_matched : (b : Bool) (p : Program) (f : FunKind) (sc : Scalars) (ms : List Mark) (a : Argument) (cs : T.Clauses) → Even (matched (world p f) sc ms b a cs) ↔ EvenOf b (λ k. asks_of b k cs) cs
even_matched true p f sc ms a cs = (λ h. h, λ h. h)
even_matched false p f sc ms a cs = (λ h. h, λ h. h)

alike_same : (ks : List ℕ) (e : Term) (m n : ℕ → ℕ) → ((k : ℕ) → m k ≡ n k) → Alike ks e m → Alike ks e n
alike_same ks e m n h a = λ k. ((a k).0, (a k).1 ∙ h k)

even_same : (b : Bool) (m n : ℕ → ℕ) (cs : T.Clauses) → ((k : ℕ) → m k ≡ n k) → EvenOf b m cs → EvenOf b n cs
even_same b m n (T.LastClause ys ks e) h d = let z = (even_last b m ys ks e).0 d in (even_last b n ys ks e).1 (alike_same (gives b ks) e m n h z.0, z.1)
even_same b m n (T.MoreClauses ys ks e cs) h d = let z = (even_more b m ys ks e cs).0 d in (even_more b n ys ks e cs).1 ((alike_same (gives b ks) e m n h z.0.0, z.0.1), even_same b m n cs h z.1)

most_same : (m n x : ℕ) → m ≡ x → n ≡ x → max m n ≡ x
most_same m n x e f = omega arith

-- where all are alike, that is what is required of them
even_asks : (b : Bool) (m : ℕ → ℕ) (cs : T.Clauses) → EvenOf b m cs → (k : ℕ) → asks_of b k cs ≡ m k
even_asks b m (T.LastClause ys ks e) d k = asks_last b k ys ks e ∙ (((even_last b m ys ks e).0 d).0 k).1
even_asks b m (T.MoreClauses ys ks e cs) d k = let z = (even_more b m ys ks e cs).0 d in asks_more b k ys ks e cs ∙ most_same (asks (Credit k) e - given k (gives b ks)) (asks_of b k cs) (m k) (z.0.0 k).1 (even_asks b m cs z.1 k)

-- ---- one clause

-- m is what f says of sizes, and 0 elsewhere
abbrev Reports : (ℕ → ℕ) → (ℕ → ℕ) → Type 0
Reports m f = ((k : ℕ) → 0 < k → k < 17 → m k ≡ f k) × ((k : ℕ) → IsOut k → m k ≡ 0)

abbrev OnSizes : (ℕ → Type 0) → Type 0
OnSizes P = (k : ℕ) → 0 < k → k < 17 → P k

alike_forth : (a g m A G F : ℕ → ℕ) → Reports a A → Reports g G → Reports m F → ((k : ℕ) → (g k ≤ a k) × (a k - g k ≡ m k)) → OnSizes (λ k. G k ≤ A k) × (OnSizes (λ k. A k - G k ≤ F k) × OnSizes (λ k. F k ≤ A k - G k))
alike_forth a g m A G F ta tg tm h = (
  λ k l u. let x = ta.0 k l u in let y = tg.0 k l u in let z = (h k).0 in omega arith,
  (
    λ k l u. let x = ta.0 k l u in let y = tg.0 k l u in let z = tm.0 k l u in let r = (h k).1 in omega arith,
    λ k l u. let x = ta.0 k l u in let y = tg.0 k l u in let z = tm.0 k l u in let r = (h k).1 in omega arith,
  ),
)

alike_back : (a g m A G F : ℕ → ℕ) → Reports a A → Reports g G → Reports m F → OnSizes (λ k. G k ≤ A k) → OnSizes (λ k. A k - G k ≤ F k) → OnSizes (λ k. F k ≤ A k - G k) → (k : ℕ) → (g k ≤ a k) × (a k - g k ≡ m k)
alike_back a g m A G F ta tg tm h n r k = elim (in_or_out k) as (λ z. (g k ≤ a k) × (a k - g k ≡ m k)) [
  | inl w ↦
      let x = ta.0 k w.0 w.1 in let y = tg.0 k w.0 w.1 in let z = tm.0 k w.0 w.1 in
      let p = h k w.0 w.1 in let q = n k w.0 w.1 in let t = r k w.0 w.1 in (omega arith, omega arith)
  | inr w ↦ let x = ta.1 k w in let y = tg.1 k w in let z = tm.1 k w in (omega arith, omega arith)
]

-- the term of a clause's body
abbrev body_of : Program → FunKind → Scalars → Bool → Names → Pattern → Block → Term
body_of p f sc b c r body = term_block (world p f) (entering (world p f) c.next sc (binders r)) (inside (world p f) b c (binders r)) body

asks_report : (p : Program) (f : FunKind) (sc : Scalars) (b : Bool) (c : Names) (r : Pattern) (body : Block) → SizedBlock p body → Reports (λ k. asks (Credit k) (body_of p f sc b c r body)) (λ k. need_block p k body)
asks_report p f sc b c r body s = (
  λ k l u. block_need k l p f (entering (world p f) c.next sc (binders r)) (inside (world p f) b c (binders r)) body s,
  λ k o. block_out k o p f (entering (world p f) c.next sc (binders r)) (inside (world p f) b c (binders r)) body s,
)

gives_report : (b : Bool) (r : Pattern) → SizedPattern r → Reports (λ k. given k (gives b (nodes r))) (λ k. N.given k b r)
gives_report b r s = (λ k l u. gives_given k b r l, λ k o. gives_out k b r o s)

clause_is : (p : Program) (f : FunKind) (q : Place) (i : ℕ) (sc : Scalars) (b : Bool) (c : Names) (r : Pattern) (body : Block) (m F : ℕ → ℕ) → SizedPattern r → SizedBlock p body → Reports m F → Alike (gives b (nodes r)) (body_of p f sc b c r body) m ↔ (None (Unused p i b r body) × (None (Less E58 q i F (λ k. need_clause p k b r body)) × None (Less E58 q i (λ k. need_clause p k b r body) F)))
clause_is p f q i sc b c r body m F sr sb t =
    let A : ℕ → ℕ = λ k. need_block p k body in
    let G : ℕ → ℕ = λ k. N.given k b r in
    let C : ℕ → ℕ = λ k. need_clause p k b r body in
    let a : ℕ → ℕ = λ k. asks (Credit k) (body_of p f sc b c r body) in
    let g : ℕ → ℕ = λ k. given k (gives b (nodes r)) in
    let ta = asks_report p f sc b c r body sb in
    let tg = gives_report b r sr in
    let u = less_none E57 (pattern_place r) i A G in
    let n = less_none E58 q i F C in
    let l = less_none E58 q i C F in (
      λ h. let z = alike_forth a g m A G F ta tg t h in (u.0 z.0, (n.0 z.1.0, l.0 z.1.1)),
      λ h. alike_back a g m A G F ta tg t (u.1 h.0) (n.1 h.1.0) (l.1 h.1.1),
    )

regroup_forth : (B U C L M D : Violation → Type 0) → ((None U × (None L × None M)) × None B) × None (λ v. C v ⊎ D v) → (v : Violation) → ((((B v ⊎ U v) ⊎ C v) ⊎ ((L v ⊎ M v) ⊎ D v))) → ⊥
regroup_forth B U C L M D h v (inl (inl (inl x))) = h.0.1 v x
regroup_forth B U C L M D h v (inl (inl (inr x))) = h.0.0.0 v x
regroup_forth B U C L M D h v (inl (inr x)) = h.1 v (inl x)
regroup_forth B U C L M D h v (inr (inl (inl x))) = h.0.0.1.0 v x
regroup_forth B U C L M D h v (inr (inl (inr x))) = h.0.0.1.1 v x
regroup_forth B U C L M D h v (inr (inr x)) = h.1 v (inr x)

regroup_back : (B U C L M D : Violation → Type 0) → None (λ v. ((B v ⊎ U v) ⊎ C v) ⊎ ((L v ⊎ M v) ⊎ D v)) → ((None U × (None L × None M)) × None B) × None (λ v. C v ⊎ D v)
regroup_back B U C L M D h = (
  ((λ v x. h v (inl (inl (inr x))), (λ v x. h v (inr (inl (inl x))), λ v x. h v (inr (inl (inr x))))), λ v x. h v (inl (inl (inl x)))),
  λ v x. elim x as (λ z. ⊥) [ inl y ↦ h v (inl (inr y)) | inr y ↦ h v (inr (inr y)) ],
)

none_two : None (λ v. ⊥ ⊎ ⊥)
none_two = λ v h. elim h as (λ x. ⊥) [ inl k ↦ k | inr k ↦ k ]

-- ---- expressions

first_alike : (b : Bool) (p : Program) (f : FunKind) (sc : Scalars) (c : Names) (ys ks : List ℕ) (e : Term) (cs : Clauses) (m : ℕ → ℕ) → EvenOf b m (clauses (world p f) sc b c ys ks e cs) → Alike (gives b ks) e m
first_alike b p f sc c ys ks e NoClauses m d = ((even_last b m ys ks e).0 d).0
first_alike b p f sc c ys ks e (MoreClauses r body cs) m d = ((even_more b m ys ks e (clauses (world p f) sc b (past_clause (world p f) b c r body) (variables (world p f) c.next (binders r)) (nodes r) (body_of p f sc b c r body) cs)).0 d).0.0

-- all are alike just where all are as the first one
first_is : (b : Bool) (p : Program) (f : FunKind) (sc : Scalars) (c : Names) (ys ks : List ℕ) (e : Term) (cs : Clauses) → EvenOf b (λ k. asks_of b k (clauses (world p f) sc b c ys ks e cs)) (clauses (world p f) sc b c ys ks e cs) ↔ EvenOf b (λ k. asks (Credit k) e - given k (gives b ks)) (clauses (world p f) sc b c ys ks e cs)
first_is b p f sc c ys ks e cs =
    let ds = clauses (world p f) sc b c ys ks e cs in
    let m : ℕ → ℕ = λ k. asks_of b k ds in
    let n : ℕ → ℕ = λ k. asks (Credit k) e - given k (gives b ks) in (
      λ d. even_same b m n ds (λ k. sym (first_alike b p f sc c ys ks e cs m d k).1) d,
      λ d. even_same b n m ds (λ k. sym (even_asks b n ds d k)) d,
    )

mutual
  pub term_even : (p : Program) (f : FunKind) (i : ℕ) (sc : Scalars) (c : Names) (e : Expression) → SizedExpression p e → Even (term (world p f) sc c e) ↔ None (Breaks p i e)
  term_even p f i sc c (Give a) s = nothing_is
  term_even p f i sc c (Tuple q as') s = nothing_is
  term_even p f i sc c (Operation o q l r) s = nothing_is
  term_even p f i sc c (Call g n q as') s = nothing_is
  term_even p f i sc c (Match d t q a r body cs) s =
      let w = world p f in
      let b = takes p d t in
      let e1 = body_of p f sc b c r body in
      let ys = variables w c.next (binders r) in
      let c1 = past_clause w b c r body in
      let ds = clauses w sc b c1 ys (nodes r) e1 cs in
      let m : ℕ → ℕ = λ k. asks (Credit k) e1 - given k (gives b (nodes r)) in
      let F : ℕ → ℕ = λ k. need_clause p k b r body in
      let ta = asks_report p f sc b c r body s.2 in
      let tg = gives_report b r s.1 in
      let t : Reports m F = (
        λ k l u. ap (λ j. j - given k (gives b (nodes r))) (ta.0 k l u) ∙ ap (λ j. need_block p k body - j) (tg.0 k l u),
        λ k o. let z = ta.1 k o in let y = tg.1 k o in omega arith,
      ) in
      let k = clause_is p f q i sc b c r body m F s.1 s.2 t in
      let l = block_even p f i (entering w c.next sc (binders r)) (inside w b c (binders r)) body s.2 in
      let same_less : None (Less E58 q i F F) = λ v h. absurd (let z = h.3 in omega arith) in
      let g = rest_even p f q i sc b c1 ys (nodes r) e1 cs m F t s.3 in
      let h = first_is b p f sc c1 ys (nodes r) e1 cs in
      let j = even_matched b p f sc c.marks a ds in (
        λ d v x.
            let y = g.0 (h.0 (j.0 d)) in
            elim x as (λ z. ⊥) [
              | inl z ↦ elim z as (λ u. ⊥) [ inl u ↦ l.0 y.0.1 v u | inr u ↦ (k.0 y.0.0).0 v u ]
              | inr z ↦ y.1 v z
            ],
        λ n. j.1 (h.1 (g.1 ((k.1 (λ v z. n v (inl (inr z)), (same_less, same_less)), l.1 (λ v z. n v (inl (inl z)))), λ v z. n v (inr z)))),
      )
  term_even p f i sc c (Nested b) s = block_even p f i sc c b s

  pub block_even : (p : Program) (f : FunKind) (i : ℕ) (sc : Scalars) (c : Names) (b : Block) → SizedBlock p b → Even (term_block (world p f) sc c b) ↔ None (BreaksBlock p i b)
  block_even p f i sc c (Last e) s = term_even p f i sc c e s
  block_even p f i sc c (Let bs e rest) s =
      let w = world p f in
      let d = following c (shape w c e) in
      none_both (Even (term w sc c e)) (Even (term_block w (entering w d.next sc bs) (inside w true d bs) rest)) (Breaks p i e) (BreaksBlock p i rest)
      (term_even p f i sc c e s.0) (block_even p f i (entering w d.next sc bs) (inside w true d bs) rest s.1)

  -- one clause, and the others, each of which differs nowhere from F
  rest_even : (p : Program) (f : FunKind) (q : Place) (i : ℕ) (sc : Scalars) (b : Bool) (c : Names) (ys ks : List ℕ) (e : Term) (cs : Clauses) (m F : ℕ → ℕ) → Reports m F → SizedClauses p cs → EvenOf b m (clauses (world p f) sc b c ys ks e cs) ↔ ((Alike (gives b ks) e m × Even e) × None (λ v. BreaksClauses p i b cs v ⊎ Differ p q i b F cs v))
  rest_even p f q i sc b c ys ks e NoClauses m F t s = let l = even_last b m ys ks e in (λ d. (l.0 d, none_two), λ h. l.1 h.0)
  rest_even p f q i sc b c ys ks e (MoreClauses r body cs) m F t s =
      let w = world p f in
      let e1 = body_of p f sc b c r body in
      let ys1 = variables w c.next (binders r) in
      let c1 = past_clause w b c r body in
      let l = even_more b m ys ks e (clauses w sc b c1 ys1 (nodes r) e1 cs) in
      let g = rest_even p f q i sc b c1 ys1 (nodes r) e1 cs m F t s.2 in
      let k = clause_is p f q i sc b c r body m F s.0 s.1 t in
      let j = block_even p f i (entering w c.next sc (binders r)) (inside w b c (binders r)) body s.1 in
      let B : Violation → Type 0 = BreaksBlock p i body in
      let U : Violation → Type 0 = Unused p i b r body in
      let R : Violation → Type 0 = BreaksClauses p i b cs in
      let L : Violation → Type 0 = Less E58 q i F (λ x. need_clause p x b r body) in
      let M : Violation → Type 0 = Less E58 q i (λ x. need_clause p x b r body) F in
      let D : Violation → Type 0 = Differ p q i b F cs in (
        λ d. let z = l.0 d in let y = g.0 z.1 in (z.0, regroup_forth B U R L M D ((k.0 y.0.0, j.0 y.0.1), y.1)),
        λ h. let z = regroup_back B U R L M D h.1 in l.1 (h.0, g.1 ((k.1 z.0.0, j.1 z.0.1), z.1)),
      )

-- ---- instances

-- what the header gives and the body requires: g and a, on sizes G and A
exact_is : (r t : Rule) (q : Place) (i : ℕ) (g a G A : ℕ → ℕ) → Reports g G → Reports a A → ((k : ℕ) → g k ≡ a k) ↔ None (λ v. Less r q i G A v ⊎ Less t q i A G v)
exact_is r t q i g a G A tg ta =
    let n = less_none r q i G A in
    let l = less_none t q i A G in (
      λ h v x. elim x as (λ z. ⊥) [
        | inl z ↦ n.0 (λ k lo hi. let x = tg.0 k lo hi in let y = ta.0 k lo hi in let w = h k in omega arith) v z
        | inr z ↦ l.0 (λ k lo hi. let x = tg.0 k lo hi in let y = ta.0 k lo hi in let w = h k in omega arith) v z
      ],
      λ h k. elim (in_or_out k) as (λ z. g k ≡ a k) [
        | inl z ↦
            let x = tg.0 k z.0 z.1 in let y = ta.0 k z.0 z.1 in
            let u = n.1 (λ v w. h v (inl w)) k z.0 z.1 in let w = l.1 (λ v w. h v (inr w)) k z.0 z.1 in omega arith
        | inr z ↦ let x = tg.1 k z in let y = ta.1 k z in omega arith
      ],
    )

enough_is : (r : Rule) (q : Place) (i : ℕ) (g a G A : ℕ → ℕ) → Reports g G → Reports a A → ((k : ℕ) → a k ≤ g k) ↔ None (Less r q i G A)
enough_is r q i g a G A tg ta =
    let n = less_none r q i G A in (
      λ h. n.0 (λ k lo hi. let x = tg.0 k lo hi in let y = ta.0 k lo hi in let w = h k in omega arith),
      λ h k. elim (in_or_out k) as (λ z. a k ≤ g k) [
        | inl z ↦ let x = tg.0 k z.0 z.1 in let y = ta.0 k z.0 z.1 in let u = n.1 h k z.0 z.1 in omega arith
        | inr z ↦ let x = tg.1 k z in let y = ta.1 k z in omega arith
      ],
    )

-- f is the kind of the instance's world
pub credits_is : (p : Program) (f : FunKind) (i : ℕ) (sc : Scalars) (c : Names) (d : Instance) (k : FunKind) → AreSizes d.credits → SizedBlock p d.body → (k ≡ Fun → ⊥) → (((j : ℕ) → Fits (is_fip k) (given j d.credits) (asks (Credit j) (term_block (world p f) sc c d.body))) × (is_fip k ≡ true → Even (term_block (world p f) sc c d.body))) ↔ None (BreaksInstance p i k d)
credits_is p f i sc c d k sh sb n =
    let e = term_block (world p f) sc c d.body in
    let g : ℕ → ℕ = λ j. given j d.credits in
    let a : ℕ → ℕ = λ j. asks (Credit j) e in
    let G : ℕ → ℕ = λ j. marked j d.credits in
    let A : ℕ → ℕ = λ j. need_block p j d.body in
    let tg : Reports g G = (λ j l u. header_given j d.credits, λ j o. header_out j d.credits o sh) in
    let ta : Reports a A = (λ j l u. block_need j l p f sc c d.body sb, λ j o. block_out j o p f sc c d.body sb) in
    let l = block_even p f i sc c d.body sb in
    let x = exact_is E56 E62 d.place i g a G A tg ta in
    let y = enough_is E56 d.place i g a G A tg ta in
    elim k as (λ z. (z ≡ Fun → ⊥) → (((j : ℕ) → Fits (is_fip z) (given j d.credits) (asks (Credit j) e)) × (is_fip z ≡ true → Even e)) ↔ None (BreaksInstance p i z d)) [
      | Fip ↦ λ u. (
        λ h v z. elim z as (λ w. ⊥) [ inl w ↦ l.0 (h.1 refl) v w | inr w ↦ x.0 h.0 v w ],
        λ h. (x.1 (λ v z. h v (inr z)), λ w. l.1 (λ v z. h v (inl z))),
      )
      | Fbip ↦ λ u. (λ h. y.0 h.0, λ h. (y.1 h, λ w. absurd (cc)))
      | Fun ↦ λ u. absurd (u refl)
    ] n
