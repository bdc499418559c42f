-- For the proof only: what the walk to the missing pattern knows at a position.
use Rattle.std.specs.Prelude.{◌≡◌, ◌⊎◌, ◌<◌, ℕ, zero, suc, pos, Bool, true, false, List, [], ◌∷◌}
use Rattle.std.specs.Prelude.{Option, Some, None, length, slice_get}
use Rattle.fip_language.specs.Values.{Value, Int, Node, Values, End, More}
use Rattle.fip_language.specs.Table.{Shape, Table, HasType, HaveTypes, constructors}
use Rattle.fip_base.specs.TableView.{fields_at as shape_fields}
use Rattle.match_knowledge.specs.declared.heads.Head.{Head}
use Rattle.match_knowledge.specs.declared.heads.Head.TheVariants.{Number, Tag}
use Rattle.match_knowledge.specs.ValueHeads.{AllHaveValues}
use Rattle.match_knowledge.specs.Patterns.{Pattern, Patterns, MorePatterns, fits, fit_all}
use Rattle.match_knowledge.specs.Known.{Known, Open, Is, Knowns, NoKnowns, MoreKnowns, agrees, agree_all}
use Rattle.match_knowledge.specs.Known.{Alive, AllAlive}
use Rattle.match_knowledge.specs.Left.{Left, IsMatch, AnswersLeft, known_of}
use Rattle.match_cover.specs.Missing.{open_fields, tails, IsMissing, AreMissing}

-- all of a value is known
abbrev mutual
  pub full : Value → Known
  full (Int i) = Is (Number i) NoKnowns
  full (Node c vs) = Is (Tag c) (full_all vs)

  pub full_all : Values → Knowns
  full_all End = NoKnowns
  full_all (More v vs) = MoreKnowns (full v) (full_all vs)

abbrev pub Has : {A : Type 0} → A → List A → Type 0
Has q [] = ⊥
Has q (p ∷ ps) = (q ≡ p) ⊎ Has q ps

-- what matches w' here matches w
abbrev pub Weaker : List Pattern → Value → Value → Type 0
Weaker here w w' = (q : Pattern) → Has q here → fits q w' ≡ true → fits q w ≡ true

abbrev pub WeakerAll : List Patterns → Values → Values → Type 0
WeakerAll here vs vs' = (q : Patterns) → Has q here → fit_all q vs' ≡ true → fit_all q vs ≡ true

-- `at k` is what is known at the root where k is known at a position of type t, and `here` is what the clauses have at
-- it: whether a value is left depends only on the value at the position, and on which patterns here match it.
pub record IsPosition (tb : Table) (root : ℕ) (rows : List Pattern) (at : Known → Known) (t : ℕ) (here : List Pattern)
    : Type 0 where
  pub alive : (k : Known) → Alive tb 0 t k → Alive tb 0 root (at k)
  pub value : (k : Known) → Left tb root rows (at k) →
      (w : Value) × HasType tb t w × (agrees k w ≡ true) × Left tb root rows (at (full w))
  pub among : (k : Known) (w : Value) → HasType tb t w → agrees k w ≡ true → Left tb root rows (at (full w)) →
      Left tb root rows (at k)
  pub weaker : (w w' : Value) → HasType tb t w → HasType tb t w' → Weaker here w w' →
      Left tb root rows (at (full w)) → Left tb root rows (at (full w'))

-- the same of the fields of a node
pub record AreFields (tb : Table) (root : ℕ) (rows : List Pattern) (at : Knowns → Known) (fs : List ℕ)
    (here : List Patterns) : Type 0 where
  pub alive : (ks : Knowns) → AllAlive tb 0 fs ks → Alive tb 0 root (at ks)
  pub values : (ks : Knowns) → Left tb root rows (at ks) →
      (vs : Values) × HaveTypes tb fs vs × (agree_all ks vs ≡ true) × Left tb root rows (at (full_all vs))
  pub among : (ks : Knowns) (vs : Values) → HaveTypes tb fs vs → agree_all ks vs ≡ true →
      Left tb root rows (at (full_all vs)) → Left tb root rows (at ks)
  pub weaker : (vs vs' : Values) → HaveTypes tb fs vs → HaveTypes tb fs vs' → WeakerAll here vs vs' →
      Left tb root rows (at (full_all vs)) → Left tb root rows (at (full_all vs'))

-- what is found there
abbrev pub FindsMissing : Table → List Pattern → (Known → Known) → ℕ → List Pattern → Pattern → Type 0
FindsMissing tb rows at t here m =
    (root : ℕ) → IsMatch tb root rows → IsPosition tb root rows at t here → Left tb root rows (at (Open [])) →
    IsMissing tb root rows at t here m

abbrev pub FindsFields : Table → List Pattern → (Knowns → Known) → List ℕ → List Patterns → Patterns → Type 0
FindsFields tb rows at fs here ms =
    (root : ℕ) → IsMatch tb root rows → AreFields tb root rows at fs here → AllHaveValues tb fs →
    Left tb root rows (at (open_fields fs)) → AreMissing tb root rows at fs here ms

-- whether h, with fields of these types, may occur there
abbrev pub Tried : Table → List Pattern → (Known → Known) → Head → List ℕ → Bool → Type 0
Tried tb rows at h fs b = AnswersLeft tb rows (at (Is h (open_fields fs))) b

abbrev pub NoNumber : Table → List Pattern → (Known → Known) → ℕ → Type 0
NoNumber tb rows at n = (m : ℕ) → m < n → Tried tb rows at (Number (pos m)) [] false

abbrev pub LeastNumber : Table → List Pattern → (Known → Known) → ℕ → Option Head → Type 0
LeastNumber tb rows at end None = NoNumber tb rows at end
LeastNumber tb rows at end (Some h) =
    (n : ℕ) × (n < end) × (h ≡ Number (pos n)) × Tried tb rows at (Number (pos n)) [] true × NoNumber tb rows at n

abbrev pub NoTag : Table → List Pattern → (Known → Known) → List Shape → ℕ → Type 0
NoTag tb rows at ss c = (d : ℕ) (s : Shape) → d < c → slice_get ss d ≡ Some s → Tried tb rows at (Tag d) s.fields false

abbrev pub LeastTag : Table → List Pattern → (Known → Known) → List Shape → Option Head → Type 0
LeastTag tb rows at ss None = (d : ℕ) (s : Shape) → slice_get ss d ≡ Some s → Tried tb rows at (Tag d) s.fields false
LeastTag tb rows at ss (Some h) =
    (c : ℕ) × (s : Shape) × (slice_get ss c ≡ Some s) × (h ≡ Tag c) × Tried tb rows at (Tag c) s.fields true
    × NoTag tb rows at ss c

-- the least head that may occur there, of the numbers below an end or of all constructors
pub record FindsHead (tb : Table) (rows : List Pattern) (at : Known → Known) (t end : ℕ) (o : Option Head)
    : Type 0 where
  pub number : t ≡ 0 → LeastNumber tb rows at end o
  pub tag : (t ≡ 0 → ⊥) → LeastTag tb rows at (constructors tb t) o

-- the types of the fields of a node
abbrev pub head_fields : Table → ℕ → Head → List ℕ
head_fields tb t (Number i) = []
head_fields tb t (Tag c) = shape_fields (constructors tb t) c

-- the fields after some of which this is known
abbrev pub inner : (Knowns → Known) → List Known → Knowns → Known
inner at [] = at
inner at (k ∷ ks) = inner (λ r. at (MoreKnowns k r)) ks

abbrev pub tails_at : ℕ → List Patterns → List Patterns
tails_at zero here = here
tails_at (suc j) here = tails_at j (tails here)

abbrev pub before_patterns : List Pattern → Patterns → Patterns
before_patterns [] ms = ms
before_patterns (q ∷ qs) ms = MorePatterns q (before_patterns qs ms)

abbrev pub knowns_after : List Pattern → List Known
knowns_after [] = []
knowns_after (q ∷ qs) = known_of q ∷ knowns_after qs

-- what was found of the first fields, where these are left
pub record FieldsDone (tb : Table) (root : ℕ) (rows : List Pattern) (at : Knowns → Known) (fs : List ℕ)
    (here : List Patterns) (done : List Pattern) (rest : List ℕ) : Type 0 where
  pub fields : AreFields tb root rows (inner at (knowns_after done)) rest (tails_at (length done) here)
  pub values : AllHaveValues tb rest
  pub left : Left tb root rows (inner at (knowns_after done) (open_fields rest))
  pub whole : (ms : Patterns) →
      AreMissing tb root rows (inner at (knowns_after done)) rest (tails_at (length done) here) ms →
      AreMissing tb root rows at fs here (before_patterns done ms)

abbrev pub FindsFirst : Table → List Pattern → (Knowns → Known) → List ℕ → List Patterns → List Pattern → List ℕ →
    Type 0
FindsFirst tb rows at fs here done rest =
    (root : ℕ) → IsMatch tb root rows → AreFields tb root rows at fs here → AllHaveValues tb fs →
    Left tb root rows (at (open_fields fs)) → FieldsDone tb root rows at fs here done rest
