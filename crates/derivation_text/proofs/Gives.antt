-- A byte that the machine takes may come, and what comes after it completes the state.
use Rattle.std.proofs.Common.{◌≡◌, ◌⊎◌, inl, inr, ℕ, suc, ◌+◌, ◌-◌, ◌*◌, ◌<◌, ◌≤◌, List, [], ◌∷◌, ◌++◌, Option, Some, None, Bool, true, false, refl, sym, ap, ap₂, ◌∙◌, subst, append_assoc, arith}
use Rattle.std.specs.Prelude.{◌&&◌, ◌==◌, nat_lt, nat_le, if◌then◌else◌}
use Rattle.std.proofs.lemmas.Bool.{eqb-true, leb-true, ltb-true}
use Rattle.std.proofs.lemmas.List.{append-nil}
use Rattle.std.proofs.lemmas.Option.{same_Some}
use Rattle.fip_language.specs.declared.limits.TheConstants.{MOST_FIELDS}
use Rattle.fip_language.specs.Character.{is_digit}
use Rattle.derivation_trees.specs.declared.derivation.RuleName.{RuleName}
use Rattle.derivation_trees.specs.declared.derivation.RuleName.TheVariants as R
use Rattle.derivation_trees.specs.Trees.{Tree, Branch, NoTrees, MoreTrees}
use Rattle.derivation_text.specs.declared.spot.Spot.{Spot}
use Rattle.derivation_text.specs.declared.spot.Spot.TheVariants as S
use Rattle.derivation_text.specs.ProofText.{rule_text, variables_text, credits_text, tree_text, GREATEST, DEEPEST}
use Rattle.derivation_text.specs.Machine.{begins, Made, State, rule_at, is_match, following_first, begun, longer, going, pass_line, act_rule, act_name, to_credits, with_variable, pass_variable, to_parts, pass_size, with_credit, pass_count, act_node, act_head, act}
use Rattle.derivation_text.proofs.Digits.{and_true}
use Rattle.derivation_text.proofs.Numbers.{Follow, IsFollow, Going, want_gives, going_longer, after_going, bits_differ}
use Rattle.derivation_text.proofs.Residual.{Zipper, Roots, Part, add, depth, zippers, mades, finished, Place, Finish, After, AfterHead, BeforeNode, HeadRest, CreditsFrom, VariablesFrom, Named, AfterLine, AfterVariable, AfterCount, AfterSize, at, Residual, Completes, Fit, Good}
use Rattle.derivation_text.proofs.Parts.{line_follow, variable_follow, count_follow, size_follow, join_nothing, after_finish, want_variables, want_credits, want_lines}
use Rattle.derivation_text.proofs.Takes.{inside, deeper}
use Rattle.fip_language.proofs.Facts.{if_some_both as if_some}

-- ---- tests

if_then : {A : Type 0} (c : Bool) (o : Option A) (b : A) → (if c then o else None) ≡ Some b → (c ≡ true) × (o ≡ Some b)
if_then true o b h = (refl, h)
if_then false o b h = cc

if_else : {A : Type 0} (c : Bool) (o : Option A) (b : A) → (if c then None else o) ≡ Some b → (c ≡ false) × (o ≡ Some b)
if_else true o b h = cc
if_else false o b h = (refl, h)

if_split : {A : Type 0} (c : Bool) (o p : Option A) (b : A) → (if c then o else p) ≡ Some b → ((c ≡ true) × (o ≡ Some b)) ⊎ ((c ≡ false) × (p ≡ Some b))
if_split true o p b h = inl (refl, h)
if_split false o p b h = inr (refl, h)

-- The state is one that is met, and what completes it completes the one before after this byte.
abbrev Moves : State Zipper → (List ℕ → List Made → Type 0) → ℕ → Type 0
Moves s' R t = Good s' × ((ts : List ℕ) (x : List Made) → Completes s' ts x → R (t ∷ ts) x)

-- ---- numbers

begun_cases : (k : Spot) (s s' : State Zipper) (most t : ℕ) → begun zippers k most s t ≡ Some s' → (is_digit t ≡ true) × (begins (t - 48) s.least most ≡ true) × (record s { spot = k; number = t - 48 } ≡ s')
begun_cases k s s' most t h =
    let p = if_some (is_digit t && begins (t - 48) s.least most) (record s { spot = k; number = t - 48 }) s' h in
    let q = and_true (is_digit t) (begins (t - 48) s.least most) p.0 in
    (q.0, q.1, p.1)

going_moves : (P : Follow) → IsFollow P → (s s' : State Zipper) (most : ℕ) → most ≤ GREATEST → (pass : State Zipper → ℕ → Option (State Zipper)) (t : ℕ)
    → ((n : ℕ) → begins n s.least most ≡ true → Good (record s { number = n }))
    → ((n : ℕ) (ts : List ℕ) (x : List Made) → Completes (record s { number = n }) ts x → Going n s.least most P ts x)
    → (s.least ≤ s.number → s.number ≤ most → pass s t ≡ Some s' → Moves s' (P s.number) t)
    → going zippers most pass s t ≡ Some s' → Moves s' (Going s.number s.least most P) t
going_moves P theorem s s' most small pass t fit same other h =
    elim (if_split (is_digit t) (longer zippers most s t) (if nat_le s.least s.number && nat_le s.number most then pass s t else None) s' h) as (λ _. Moves s' (Going s.number s.least most P) t) [
      | inl p ↦ (
          let n = 10 * s.number + (t - 48) in
          let a = if_else (s.number == 0) (if begins n s.least most then Some (record s { number = n }) else None) s' p.1 in
          let b = if_some (begins n s.least most) (record s { number = n }) s' a.1 in
          subst (λ s'. Moves s' (Going s.number s.least most P) t) b.1
          (fit n b.0, λ ts x c. going_longer P theorem s.least most small s.number t ts x p.0 a.0 (same n ts x c)))
      | inr p ↦ (
          let a = if_then (nat_le s.least s.number && nat_le s.number most) (pass s t) s' p.1 in
          let b = and_true (nat_le s.least s.number) (nat_le s.number most) a.0 in
          let l = leb-true s.least s.number b.0 in
          let m = leb-true s.number most b.1 in
          let q = other l m a.1 in
          (q.0, λ ts x c. after_going P theorem s.least most small s.number t ts x p.0 l m (q.1 ts x c)))
    ]

-- ---- lines

line_moves : (s s' : State Zipper) (t : ℕ) → act zippers S.Line (record s { spot = S.Line }) t ≡ Some s' → Moves s' (Residual S.Line s) t
line_moves s s' t h =
    let p = begun_cases S.LineNumber (record s { spot = S.Line }) s' GREATEST t h in
    subst (λ s'. Moves s' (Residual S.Line s) t) p.2 (
      p.1,
      λ ts x c.
          let w = want_lines s.lines s.least (t ∷ ts) x (want_gives (AfterLine s.lines) (line_follow s.lines) s.least GREATEST (omega arith) t ts x p.0 c) in
          (w.0 ∷ w.1, w.2, w.3, w.4),
    )

line_number_moves : (s s' : State Zipper) (t : ℕ) → act zippers S.LineNumber (record s { spot = S.LineNumber }) t ≡ Some s' → Moves s' (Residual S.LineNumber s) t
line_number_moves s s' t h = going_moves (AfterLine s.lines) (line_follow s.lines) (record s { spot = S.LineNumber }) s' GREATEST (omega arith) (pass_line zippers) t
    (λ n b. b) (λ n ts x c. c)
    (λ l m e.
    let p = if_some (t == 32) (record s { spot = S.Rule; instance = s.number; nodes = Roots NoTrees }) s' e in
    subst (λ s'. Moves s' (AfterLine s.lines s.number) t) p.1
    (omega arith, λ ts x c. (ts, ap (λ t. t ∷ ts) (eqb-true t 32 p.0), c)))
    h

-- ---- rules

-- the first letter of a rule's name; that of a match is no other rule's
abbrev IsFirst : RuleName → ℕ → Type 0
IsFirst r t = (rule_text r ≡ t ∷ following_first (rule_text r)) × (is_match r ≡ true → r ≡ R.Match)

first_is : (t c : ℕ) (q r : RuleName) → IsFirst q c → (t == c) ≡ true → Some q ≡ Some r → IsFirst r t
first_is t c q r f e h = subst (λ r. IsFirst r t) (same_Some q r h) (subst (IsFirst q) (sym (eqb-true t c e)) f)

no_match : (r : RuleName) → false ≡ true → r ≡ R.Match
no_match r h = cc

rule_first : (t : ℕ) (r : RuleName) → rule_at t ≡ Some r → IsFirst r t
rule_first t r h0 = elim (if_split (t == 86) (Some R.Variable) (if t == 83 then Some R.Scalar else if t == 84 then Some R.Tuple else if t == 65 then Some R.Atom else if t == 82 then Some R.Reuse else if t == 76 then Some R.Let else if t == 67 then Some R.Call else if t == 77 then Some R.Match else if t == 87 then Some R.Weaken else None) r h0) as (λ _. IsFirst r t) [
  | inl p ↦ first_is t 86 R.Variable r (refl, no_match R.Variable) p.0 p.1
  | inr p ↦ elim (if_split (t == 83) (Some R.Scalar) (if t == 84 then Some R.Tuple else if t == 65 then Some R.Atom else if t == 82 then Some R.Reuse else if t == 76 then Some R.Let else if t == 67 then Some R.Call else if t == 77 then Some R.Match else if t == 87 then Some R.Weaken else None) r p.1) as (λ _. IsFirst r t) [
    | inl p ↦ first_is t 83 R.Scalar r (refl, no_match R.Scalar) p.0 p.1
    | inr p ↦ elim (if_split (t == 84) (Some R.Tuple) (if t == 65 then Some R.Atom else if t == 82 then Some R.Reuse else if t == 76 then Some R.Let else if t == 67 then Some R.Call else if t == 77 then Some R.Match else if t == 87 then Some R.Weaken else None) r p.1) as (λ _. IsFirst r t) [
      | inl p ↦ first_is t 84 R.Tuple r (refl, no_match R.Tuple) p.0 p.1
      | inr p ↦ elim (if_split (t == 65) (Some R.Atom) (if t == 82 then Some R.Reuse else if t == 76 then Some R.Let else if t == 67 then Some R.Call else if t == 77 then Some R.Match else if t == 87 then Some R.Weaken else None) r p.1) as (λ _. IsFirst r t) [
        | inl p ↦ first_is t 65 R.Atom r (refl, no_match R.Atom) p.0 p.1
        | inr p ↦ elim (if_split (t == 82) (Some R.Reuse) (if t == 76 then Some R.Let else if t == 67 then Some R.Call else if t == 77 then Some R.Match else if t == 87 then Some R.Weaken else None) r p.1) as (λ _. IsFirst r t) [
          | inl p ↦ first_is t 82 R.Reuse r (refl, no_match R.Reuse) p.0 p.1
          | inr p ↦ elim (if_split (t == 76) (Some R.Let) (if t == 67 then Some R.Call else if t == 77 then Some R.Match else if t == 87 then Some R.Weaken else None) r p.1) as (λ _. IsFirst r t) [
            | inl p ↦ first_is t 76 R.Let r (refl, no_match R.Let) p.0 p.1
            | inr p ↦ elim (if_split (t == 67) (Some R.Call) (if t == 77 then Some R.Match else if t == 87 then Some R.Weaken else None) r p.1) as (λ _. IsFirst r t) [
              | inl p ↦ first_is t 67 R.Call r (refl, no_match R.Call) p.0 p.1
              | inr p ↦ elim (if_split (t == 77) (Some R.Match) (if t == 87 then Some R.Weaken else None) r p.1) as (λ _. IsFirst r t) [
                | inl p ↦ first_is t 77 R.Match r (refl, λ _. refl) p.0 p.1
                | inr p ↦ (let q = if_then (t == 87) (Some R.Weaken) r p.1 in first_is t 87 R.Weaken r (refl, no_match R.Weaken) q.0 q.1)
              ]
            ]
          ]
        ]
      ]
    ]
  ]
]

-- a node whose rule's name is here
node_named : (k : Place) (r : RuleName) (bs rest : List ℕ) (x : List Made) → depth k.nodes < DEEPEST → bs ≡ rule_text r ++ 91 ∷ rest → VariablesFrom k r [] 0 rest x → BeforeNode k bs x
node_named k r bs rest x lt e h =
    let c = h.4 in
    let n = c.4 in (
      Branch r h.0 c.0 n.0,
      n.1,
      (omega arith, h.2, c.2, n.2),
      e ∙ ap (λ l. rule_text r ++ 91 ∷ l) (h.3 ∙ ap (λ l. variables_text h.0 (124 ∷ l)) (c.3 ∙ ap (credits_text c.0) n.3)),
      n.4,
    )

named_node : (k : Place) (r : RuleName) (t : ℕ) (ts : List ℕ) (x : List Made) → depth k.nodes < DEEPEST → IsFirst r t → Named k r (following_first (rule_text r)) ts x → BeforeNode k (t ∷ ts) x
named_node k r t ts x lt f (inl h) = node_named k r (t ∷ ts) h.0 x lt (ap (λ l. t ∷ l) h.1 ∙ ap (λ l. l ++ 91 ∷ h.0) (sym f.0)) h.2
named_node k r t ts x lt f (inr h) =
    let m = f.1 h.1 in
    let e : rule_text R.Match ≡ t ∷ following_first (rule_text R.Match) = subst (λ r. rule_text r ≡ t ∷ following_first (rule_text r)) m f.0 in
    node_named k R.TakingMatch (t ∷ ts) h.0 x lt
    (ap (λ l. t ∷ l) (h.2 ∙ ap (λ r. following_first (rule_text r) ++ 33 ∷ 91 ∷ h.0) m) ∙ ap (λ l. l ++ 33 ∷ 91 ∷ h.0) (sym e)) h.3

rule_moves : (s s' : State Zipper) (t : ℕ) → Fit S.Rule s → (o : Option RuleName) → rule_at t ≡ o → act_rule zippers o (record s { spot = S.Rule }) ≡ Some s' → Moves s' (Residual S.Rule s) t
rule_moves s s' t g None e h = cc
rule_moves s s' t g (Some r) e h = subst (λ s'. Moves s' (Residual S.Rule s) t) (same_Some (record s { spot = S.Name; rule = r; letters = following_first (rule_text r) }) s' h)
    (g, λ ts x c. named_node (at s) r t ts x g (rule_first t r e) c)

name_moves : (letters : List ℕ) (s s' : State Zipper) (t : ℕ) → depth s.nodes < DEEPEST → act_name zippers letters (record s { spot = S.Name; letters = letters }) t ≡ Some s' → Moves s' (Named (at s) s.rule letters) t
name_moves [] s s' t g h =
    let there : State Zipper = record s { spot = S.Variables; letters = []; variables = []; least = 0 } in
    let taken : State Zipper = record s { spot = S.Name; letters = []; rule = R.TakingMatch } in
    elim (if_split (t == 91) (Some there) (if (t == 33) && is_match s.rule then Some taken else None) s' h) as (λ _. Moves s' (Named (at s) s.rule []) t) [
      | inl p ↦ subst (λ s'. Moves s' (Named (at s) s.rule []) t) (same_Some there s' p.1)
          (g, λ ts x c. inl (ts, ap (λ t. t ∷ ts) (eqb-true t 91 p.0), c))
      | inr p ↦ (
          let q = if_some ((t == 33) && is_match s.rule) taken s' p.1 in
          let b = and_true (t == 33) (is_match s.rule) q.0 in
          subst (λ s'. Moves s' (Named (at s) s.rule []) t) q.1
          (g, λ ts x c. following (eqb-true t 33 b.0) b.1 ts x c))
    ]
  where
    following : t ≡ 33 → is_match s.rule ≡ true → (ts : List ℕ) (x : List Made) → Named (at s) R.TakingMatch [] ts x → Named (at s) s.rule [] (t ∷ ts) x
    following e m ts x (inl c) = inr (c.0, m, ap₂ (λ t l. t ∷ l) e c.1, c.2)
    following e m ts x (inr c) = bits_differ false c.1 refl
name_moves (c ∷ letters) s s' t g h =
    let p = if_some (t == c) (record s { spot = S.Name; letters = letters }) s' h in
    subst (λ s'. Moves s' (Named (at s) s.rule (c ∷ letters)) t) p.1 (g, λ ts x n. following (eqb-true t c p.0) ts x n)
  where
    following : t ≡ c → (ts : List ℕ) (x : List Made) → Named (at s) s.rule letters ts x → Named (at s) s.rule (c ∷ letters) (t ∷ ts) x
    following e ts x (inl n) = inl (n.0, ap₂ (λ t l. t ∷ l) e n.1, n.2)
    following e ts x (inr n) = inr (n.0, n.1, ap₂ (λ t l. t ∷ l) e n.2, n.3)

-- ---- variables

variables_moves : (s s' : State Zipper) (t : ℕ) → Fit S.Variables s → act zippers S.Variables (record s { spot = S.Variables }) t ≡ Some s' → Moves s' (Residual S.Variables s) t
variables_moves s s' t g h =
    elim (if_split (t == 124) (to_credits zippers (record s { spot = S.Variables })) (begun zippers S.VariableNumber GREATEST (record s { spot = S.Variables }) t) s' h) as (λ _. Moves s' (Residual S.Variables s) t) [
      | inl p ↦ subst (λ s'. Moves s' (Residual S.Variables s) t) (same_Some (record s { spot = S.Credits; credits = []; least = 1 }) s' p.1)
          (g, λ ts x c. ([], ts, tt, ap (λ t. t ∷ ts) (eqb-true t 124 p.0), subst (λ vs. CreditsFrom (at s) s.rule vs [] 1 ts x) (sym (append-nil s.variables)) c))
      | inr q ↦ (
          let p = begun_cases S.VariableNumber (record s { spot = S.Variables }) s' GREATEST t q.1 in
          subst (λ s'. Moves s' (Residual S.Variables s) t) p.2 (
            (g, p.1),
            λ ts x c.
                let w = want_variables (at s) s.rule s.variables s.least (t ∷ ts) x (want_gives (AfterVariable (at s) s.rule s.variables) (variable_follow (at s) s.rule s.variables) s.least GREATEST (omega arith) t ts x p.0 c) in
                (w.0 ∷ w.1, w.2, w.3, w.4, w.5),
          ))
    ]

variable_moves : (s s' : State Zipper) (t : ℕ) → Fit S.Variable s → act zippers S.Variable (record s { spot = S.Variable }) t ≡ Some s' → Moves s' (Residual S.Variable s) t
variable_moves s s' t g h =
    let p = begun_cases S.VariableNumber (record s { spot = S.Variable }) s' GREATEST t h in
    subst (λ s'. Moves s' (Residual S.Variable s) t) p.2
    ((g.0, p.1), λ ts x c. want_gives (AfterVariable (at s) s.rule s.variables) (variable_follow (at s) s.rule s.variables) s.least GREATEST (omega arith) t ts x p.0 c)

variable_passes : (s s' : State Zipper) (t : ℕ) → depth s.nodes < DEEPEST → pass_variable zippers s t ≡ Some s' → Moves s' (AfterVariable (at s) s.rule s.variables s.number) t
variable_passes s s' t g h =
    let next : State Zipper = record (with_variable zippers s) { spot = S.Variable; least = suc s.number } in
    elim (if_split (t == 124) (to_credits zippers (with_variable zippers s)) (if (t == 32) && nat_lt s.number GREATEST then Some next else None) s' h) as (λ _. Moves s' (AfterVariable (at s) s.rule s.variables s.number) t) [
      | inl p ↦ subst (λ s'. Moves s' (AfterVariable (at s) s.rule s.variables s.number) t) (same_Some (record (with_variable zippers s) { spot = S.Credits; credits = []; least = 1 }) s' p.1)
          (g, λ ts x c. ([], ts, tt, ap (λ t. t ∷ ts) (eqb-true t 124 p.0), subst (λ vs. CreditsFrom (at s) s.rule vs [] 1 ts x) (sym (append-nil (s.variables ++ s.number ∷ []))) c))
      | inr p ↦ (
          let q = if_some ((t == 32) && nat_lt s.number GREATEST) next s' p.1 in
          let b = and_true (t == 32) (nat_lt s.number GREATEST) q.0 in
          let lt = ltb-true s.number GREATEST b.1 in
          subst (λ s'. Moves s' (AfterVariable (at s) s.rule s.variables s.number) t) q.1 (
            (g, omega arith),
            λ ts x c.
                let w = want_variables (at s) s.rule (s.variables ++ s.number ∷ []) (suc s.number) ts x c in
                (w.0 ∷ w.1, w.2, w.3, ap₂ (λ t l. t ∷ l) (eqb-true t 32 b.0) w.4, w.5),
          ))
    ]

variable_number_moves : (s s' : State Zipper) (t : ℕ) → Fit S.VariableNumber s → act zippers S.VariableNumber (record s { spot = S.VariableNumber }) t ≡ Some s' → Moves s' (Residual S.VariableNumber s) t
variable_number_moves s s' t g h = going_moves (AfterVariable (at s) s.rule s.variables) (variable_follow (at s) s.rule s.variables) (record s { spot = S.VariableNumber }) s' GREATEST (omega arith) (pass_variable zippers) t
    (λ n b. (g.0, b)) (λ n ts x c. c) (λ l m e. variable_passes (record s { spot = S.VariableNumber }) s' t g.0 e) h

-- ---- credits

parts_moves : (s s' : State Zipper) (t : ℕ) → depth s.nodes < DEEPEST → (t == 93) ≡ true → to_parts zippers s ≡ Some s' → Moves s' (HeadRest (at s) s.rule s.variables s.credits) t
parts_moves s s' t g e h = subst (λ s'. Moves s' (HeadRest (at s) s.rule s.variables s.credits) t)
    (same_Some (record s { spot = S.Head; nodes = Part s.rule s.variables s.credits NoTrees s.nodes; variables = []; credits = [] }) s' h)
    ((tt, omega arith), λ ts x c. (c.0, c.1, c.2, ap₂ (λ t l. t ∷ l) (eqb-true t 93 e) c.3, c.4))

credits_moves : (s s' : State Zipper) (t : ℕ) → Fit S.Credits s → act zippers S.Credits (record s { spot = S.Credits }) t ≡ Some s' → Moves s' (Residual S.Credits s) t
credits_moves s s' t g h =
    elim (if_split (t == 93) (to_parts zippers (record s { spot = S.Credits })) (begun zippers S.SizeNumber MOST_FIELDS (record s { spot = S.Credits }) t) s' h) as (λ _. Moves s' (Residual S.Credits s) t) [
      | inl p ↦ (
          let m = parts_moves (record s { spot = S.Credits }) s' t g p.0 p.1 in
          (m.0, λ ts x c. ([], t ∷ ts, tt, refl, subst (λ cs. HeadRest (at s) s.rule s.variables cs (t ∷ ts) x) (sym (append-nil s.credits)) (m.1 ts x c))))
      | inr q ↦ (
          let p = begun_cases S.SizeNumber (record s { spot = S.Credits }) s' MOST_FIELDS t q.1 in
          subst (λ s'. Moves s' (Residual S.Credits s) t) p.2 (
            (g, p.1),
            λ ts x c.
                let w = want_credits (at s) s.rule s.variables s.credits s.least (t ∷ ts) x (want_gives (AfterSize (at s) s.rule s.variables s.credits) (size_follow (at s) s.rule s.variables s.credits) s.least MOST_FIELDS (omega arith) t ts x p.0 c) in
                (w.0 ∷ w.1, w.2, w.3, w.4, w.5),
          ))
    ]

size_moves : (s s' : State Zipper) (t : ℕ) → Fit S.Size s → act zippers S.Size (record s { spot = S.Size }) t ≡ Some s' → Moves s' (Residual S.Size s) t
size_moves s s' t g h =
    let p = begun_cases S.SizeNumber (record s { spot = S.Size }) s' MOST_FIELDS t h in
    subst (λ s'. Moves s' (Residual S.Size s) t) p.2
    ((g.0, p.1), λ ts x c. want_gives (AfterSize (at s) s.rule s.variables s.credits) (size_follow (at s) s.rule s.variables s.credits) s.least MOST_FIELDS (omega arith) t ts x p.0 c)

size_number_moves : (s s' : State Zipper) (t : ℕ) → Fit S.SizeNumber s → act zippers S.SizeNumber (record s { spot = S.SizeNumber }) t ≡ Some s' → Moves s' (Residual S.SizeNumber s) t
size_number_moves s s' t g h = going_moves (AfterSize (at s) s.rule s.variables s.credits) (size_follow (at s) s.rule s.variables s.credits) (record s { spot = S.SizeNumber }) s' MOST_FIELDS (omega arith) (pass_size zippers) t
    (λ n b. (g.0, b)) (λ n ts x c. c)
    (λ l m e.
    let p = if_some (t == 58) (record s { spot = S.Count; size = s.number; least = 1 }) s' e in
    subst (λ s'. Moves s' (AfterSize (at s) s.rule s.variables s.credits s.number) t) p.1
    ((g.0, omega arith), λ ts x c. (ts, ap (λ t. t ∷ ts) (eqb-true t 58 p.0), c)))
    h

count_moves : (s s' : State Zipper) (t : ℕ) → Fit S.Count s → act zippers S.Count (record s { spot = S.Count }) t ≡ Some s' → Moves s' (Residual S.Count s) t
count_moves s s' t g h =
    let p = begun_cases S.CountNumber (record s { spot = S.Count }) s' GREATEST t h in
    subst (λ s'. Moves s' (Residual S.Count s) t) p.2
    ((g.0, p.1), λ ts x c. want_gives (AfterCount (at s) s.rule s.variables s.credits s.size) (count_follow (at s) s.rule s.variables s.credits s.size) s.least GREATEST (omega arith) t ts x p.0 c)

count_passes : (s s' : State Zipper) (t : ℕ) → depth s.nodes < DEEPEST → pass_count zippers s t ≡ Some s' → Moves s' (AfterCount (at s) s.rule s.variables s.credits s.size s.number) t
count_passes s s' t g h =
    let next : State Zipper = record (with_credit zippers s) { spot = S.Size; least = suc s.size } in
    let cs = s.credits ++ record { size = s.size; count = s.number } ∷ [] in
    elim (if_split (t == 93) (to_parts zippers (with_credit zippers s)) (if (t == 32) && nat_lt s.size MOST_FIELDS then Some next else None) s' h) as (λ _. Moves s' (AfterCount (at s) s.rule s.variables s.credits s.size s.number) t) [
      | inl p ↦ (
          let m = parts_moves (with_credit zippers s) s' t g p.0 p.1 in
          (m.0, λ ts x c. ([], t ∷ ts, tt, refl, subst (λ cs. HeadRest (at s) s.rule s.variables cs (t ∷ ts) x) (sym (append-nil cs)) (m.1 ts x c))))
      | inr p ↦ (
          let q = if_some ((t == 32) && nat_lt s.size MOST_FIELDS) next s' p.1 in
          let b = and_true (t == 32) (nat_lt s.size MOST_FIELDS) q.0 in
          let lt = ltb-true s.size MOST_FIELDS b.1 in
          subst (λ s'. Moves s' (AfterCount (at s) s.rule s.variables s.credits s.size s.number) t) q.1 (
            (g, omega arith),
            λ ts x c.
                let w = want_credits (at s) s.rule s.variables cs (suc s.size) ts x c in
                (w.0 ∷ w.1, w.2, w.3, ap₂ (λ t l. t ∷ l) (eqb-true t 32 b.0) w.4, w.5),
          ))
    ]

count_number_moves : (s s' : State Zipper) (t : ℕ) → Fit S.CountNumber s → act zippers S.CountNumber (record s { spot = S.CountNumber }) t ≡ Some s' → Moves s' (Residual S.CountNumber s) t
count_number_moves s s' t g h = going_moves (AfterCount (at s) s.rule s.variables s.credits s.size) (count_follow (at s) s.rule s.variables s.credits s.size) (record s { spot = S.CountNumber }) s' GREATEST (omega arith) (pass_count zippers) t
    (λ n b. (g.0, b)) (λ n ts x c. c) (λ l m e. count_passes (record s { spot = S.CountNumber }) s' t g.0 e) h

-- ---- nodes

add_depth : (z : Zipper) (t : Tree) → depth (add z t) ≡ depth z
add_depth (Roots ds) t = refl
add_depth (Part r vs cs ds o) t = refl

node_moves : (z : Zipper) (s s' : State Zipper) (t : ℕ) → depth z < DEEPEST → act_node zippers (record s { nodes = z }) t ≡ Some s' → Moves s' (After s.lines s.instance z) t
node_moves (Roots ds) s s' t g h =
    let next : State Zipper = record s { spot = S.Line; nodes = Roots NoTrees; lines = s.lines ++ finished s.instance ds ∷ []; least = suc s.instance } in
    let p = if_some (t == 10) next s' h in
    subst (λ s'. Moves s' (After s.lines s.instance (Roots ds)) t) p.1
    (tt, λ ts x c. (c.0, ap₂ (λ t l. t ∷ l) (eqb-true t 10 p.0) c.2, c.1, c.3 ∙ append_assoc s.lines (finished s.instance ds ∷ []) (mades c.0)))
node_moves (Part r vs cs ds o) s s' t g h =
    let deep : State Zipper = record (inside s r vs cs ds o) { spot = S.Rule } in
    let back : State Zipper = record (inside s r vs cs ds o) { spot = S.Node; nodes = add o (Branch r vs cs ds) } in
    elim (if_split (t == 44) (Some deep) (if t == 41 then Some back else None) s' (sym (deeper s r vs cs ds o t) ∙ h)) as (λ _. Moves s' (After s.lines s.instance (Part r vs cs ds o)) t) [
      | inl p ↦ subst (λ s'. Moves s' (After s.lines s.instance (Part r vs cs ds o)) t) (same_Some deep s' p.1) (
        g,
        λ ts x c.
            let f = c.4 in
            (MoreTrees c.0 f.0, f.1, (c.2, f.2), ap₂ (λ t l. t ∷ l) (eqb-true t 44 p.0) (c.3 ∙ ap (tree_text c.0) f.3), f.4),
      )
      | inr p ↦ (
          let q = if_some (t == 41) back s' p.1 in
          let d = add_depth o (Branch r vs cs ds) in
          subst (λ s'. Moves s' (After s.lines s.instance (Part r vs cs ds o)) t) q.1 (
            omega (arith, d),
            λ ts x c.
                (NoTrees, ts, tt, ap (λ t. t ∷ ts) (eqb-true t 41 q.0), subst (λ us. Finish s.lines s.instance o (Branch r vs cs us) ts x) (sym (join_nothing ds)) (after_finish s.lines s.instance o (Branch r vs cs ds) ts x c)),
          ))
    ]

head_moves : (z : Zipper) (s s' : State Zipper) (t : ℕ) → Fit S.Head (record s { nodes = z }) → act_head zippers (record s { nodes = z }) t ≡ Some s' → Moves s' (AfterHead s.lines s.instance z) t
head_moves (Roots ds) s s' t g h = absurd g.0
head_moves (Part r vs cs ds o) s s' t g h =
    let deep : State Zipper = record (inside s r vs cs ds o) { spot = S.Rule } in
    let z = add o (Branch r vs cs ds) in
    let d = add_depth o (Branch r vs cs ds) in
    let low = g.1 in
    elim (if_split (t == 40) (if nat_lt (suc (depth o)) DEEPEST then Some deep else None) (act_node zippers (record s { nodes = z }) t) s' h) as (λ _. Moves s' (AfterHead s.lines s.instance (Part r vs cs ds o)) t) [
      | inl p ↦ (
          let q = if_some (nat_lt (suc (depth o)) DEEPEST) deep s' p.1 in
          subst (λ s'. Moves s' (AfterHead s.lines s.instance (Part r vs cs ds o)) t) q.1 (
            ltb-true (suc (depth o)) DEEPEST q.0,
            λ ts x c.
                let f = c.4 in
                (MoreTrees c.0 f.0, f.1, (c.2, f.2), ap₂ (λ t l. t ∷ l) (eqb-true t 40 p.0) (c.3 ∙ ap (tree_text c.0) f.3), f.4),
          ))
      | inr p ↦ (
          let m = node_moves z s s' t (omega (arith, d)) p.1 in (
            m.0,
            λ ts x c.
                (NoTrees, t ∷ ts, tt, refl, subst (λ us. Finish s.lines s.instance o (Branch r vs cs us) (t ∷ ts) x) (sym (join_nothing ds)) (after_finish s.lines s.instance o (Branch r vs cs ds) (t ∷ ts) x (m.1 ts x c))),
          ))
    ]

moves_at : (k : Spot) (s s' : State Zipper) (t : ℕ) → Fit k s → act zippers k (record s { spot = k }) t ≡ Some s' → Moves s' (Residual k s) t
moves_at S.Line s s' t g h = line_moves s s' t h
moves_at S.LineNumber s s' t g h = line_number_moves s s' t h
moves_at S.Rule s s' t g h = rule_moves s s' t g (rule_at t) refl h
moves_at S.Name s s' t g h = name_moves s.letters s s' t g h
moves_at S.Variables s s' t g h = variables_moves s s' t g h
moves_at S.Variable s s' t g h = variable_moves s s' t g h
moves_at S.VariableNumber s s' t g h = variable_number_moves s s' t g h
moves_at S.Credits s s' t g h = credits_moves s s' t g h
moves_at S.Size s s' t g h = size_moves s s' t g h
moves_at S.SizeNumber s s' t g h = size_number_moves s s' t g h
moves_at S.Count s s' t g h = count_moves s s' t g h
moves_at S.CountNumber s s' t g h = count_number_moves s s' t g h
moves_at S.Head s s' t g h = head_moves s.nodes (record s { spot = S.Head }) s' t g h
moves_at S.Node s s' t g h = node_moves s.nodes (record s { spot = S.Node }) s' t g h

pub moves : (s s' : State Zipper) (t : ℕ) → Good s → act zippers s.spot s t ≡ Some s' → Good s' × ((ts : List ℕ) (x : List Made) → Completes s' ts x → Completes s (t ∷ ts) x)
moves s s' t g h = moves_at s.spot s s' t g h
