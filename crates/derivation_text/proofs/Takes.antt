-- What completes a state begins with a byte that the machine takes.
use Rattle.std.proofs.Common.{◌≡◌, inl, inr, ℕ, suc, ◌+◌, ◌-◌, ◌*◌, ◌<◌, ◌≤◌, List, [], ◌∷◌, ◌++◌, Option, Some, None, true, false, refl, sym, ap, ◌∙◌, subst, append_assoc, arith}
use Rattle.std.specs.Prelude.{◌&&◌, ◌==◌, nat_lt, nat_le, if◌then◌else◌}
use Rattle.std.specs.Fmt.{decimal}
use Rattle.std.proofs.lemmas.Bool.{le-leb, lt-ltb, eq-eqb, ne_eqb}
use Rattle.std.proofs.lemmas.List.{append-nil}
use Rattle.fip_language.specs.declared.limits.TheConstants.{MOST_FIELDS}
use Rattle.fip_language.specs.Character.{is_digit}
use Rattle.derivation_trees.specs.declared.derivation.RuleName.{RuleName}
use Rattle.derivation_trees.specs.declared.derivation.RuleName.TheVariants as R
use Rattle.derivation_trees.specs.declared.derivation.Credit.{Credit}
use Rattle.derivation_trees.specs.Trees.{Tree, Missing, Branch, Trees, NoTrees, MoreTrees, Entry}
use Rattle.derivation_text.specs.declared.spot.Spot.{Spot}
use Rattle.derivation_text.specs.declared.spot.Spot.TheVariants as S
use Rattle.derivation_text.specs.ProofText.{rule_text, more_variables, variables_text, more_credits, credits_text, tree_text, parts_text, more_parts, lines_text, GREATEST, DEEPEST, AreVariables, AreCredits, IsNode, AreNodes, AreEntries}
use Rattle.derivation_text.specs.Machine.{begins, Made, State, rule_at, is_match, following_first, begun, longer, going, pass_line, act_rule, act_name, to_credits, act_variables, with_variable, pass_variable, to_parts, act_credits, pass_size, with_credit, pass_count, act_node, act_head, act}
use Rattle.derivation_text.proofs.Digits.{if_yes, if_not, true_and, either, digit_range}
use Rattle.derivation_text.proofs.Numbers.{Follow, IsFollow, Want, Going, cons_head, cons_tail, no_cons, want_takes, going_digit, going_after}
use Rattle.derivation_text.proofs.Residual.{Zipper, Roots, Part, join, add, depth, zippers, made, mades, finished, Finish, After, AfterHead, BeforeNode, HeadRest, CreditsFrom, VariablesFrom, Named, AfterLine, AfterVariable, AfterCount, AfterSize, at, Residual, Completes, Fit, Good}
use Rattle.derivation_text.proofs.Parts.{line_follow, variable_follow, count_follow, size_follow, join_nothing, finish_after, node_depth, after_sign, variables_want, credits_want, lines_want}

abbrev pub Takes : Spot → State Zipper → ℕ → List ℕ → List Made → Type 0
Takes k s t ts x = (s' : State Zipper) × (act zippers k (record s { spot = k }) t ≡ Some s') × Completes s' ts x

-- ---- numbers

-- a digit is no sign after the digits
pub other_sign : (t c : ℕ) → is_digit t ≡ true → 57 < c → (t == c) ≡ false
other_sign t c d lt = ne_eqb t c (λ e. let r = digit_range t d in let r1 = r.1 in absurd (omega (arith, e)))

-- the first digit
begun_takes : (P : Follow) → IsFollow P → (k : Spot) (s : State Zipper) (most : ℕ) → most ≤ GREATEST → (t : ℕ) (ts : List ℕ) (x : List Made) → Want s.least most P (t ∷ ts) x → (begun zippers k most s t ≡ Some (record s { spot = k; number = t - 48 })) × Going (t - 48) s.least most P ts x × (is_digit t ≡ true)
begun_takes P theorem k s most small t ts x h =
    let w = want_takes P theorem s.least most small t ts x h in
    (if_yes (is_digit t && begins (t - 48) s.least most) (Some (record s { spot = k; number = t - 48 })) None (true_and (is_digit t) (begins (t - 48) s.least most) w.0 w.1), w.2, w.0)

-- a further byte
going_takes : (P : Follow) → IsFollow P → (s : State Zipper) (most : ℕ) → most ≤ GREATEST → (pass : State Zipper → ℕ → Option (State Zipper)) (t : ℕ) (ts : List ℕ) (x : List Made)
    → ((n : ℕ) → Going n s.least most P ts x → Completes (record s { number = n }) ts x)
    → (s.least ≤ s.number → s.number ≤ most → P s.number (t ∷ ts) x → (s' : State Zipper) × (pass s t ≡ Some s') × Completes s' ts x)
    → Going s.number s.least most P (t ∷ ts) x → (s' : State Zipper) × (going zippers most pass s t ≡ Some s') × Completes s' ts x
going_takes P theorem s most small pass t ts x digit other h = elim (either (is_digit t)) as (λ _. (s' : State Zipper) × (going zippers most pass s t ≡ Some s') × Completes s' ts x) [
  | inl d ↦ (
      let g = going_digit P theorem s.least most small s.number t ts x d h in
      let n = 10 * s.number + (t - 48) in
      let o : Option (State Zipper) = if begins n s.least most then Some (record s { number = n }) else None in
      let p : Option (State Zipper) = if nat_le s.least s.number && nat_le s.number most then pass s t else None in (
        record s { number = n },
        if_yes (is_digit t) (longer zippers most s t) p d ∙ if_not (s.number == 0) None o g.0 ∙ if_yes (begins n s.least most) (Some (record s { number = n })) None g.1,
        digit n g.2,
      ))
  | inr d ↦ (
      let g = going_after P theorem s.least most small s.number t ts x d h in
      let r = other g.0 g.1 g.2 in
      let p : Option (State Zipper) = if nat_le s.least s.number && nat_le s.number most then pass s t else None in (
        r.0,
        if_not (is_digit t) (longer zippers most s t) p d
            ∙ if_yes (nat_le s.least s.number && nat_le s.number most) (pass s t) None (true_and (nat_le s.least s.number) (nat_le s.number most) (le-leb s.least s.number g.0) (le-leb s.number most g.1)) ∙ r.1,
        r.2,
      ))
]

-- ---- lines

line_takes : (s : State Zipper) (t : ℕ) (ts : List ℕ) (x : List Made) → Residual S.Line s (t ∷ ts) x → Takes S.Line s t ts x
line_takes s t ts x h = by_entries h.0 h.1 h.2 h.3
  where
    by_entries : (es : List Entry) → AreEntries s.least es → t ∷ ts ≡ lines_text es → x ≡ s.lines ++ mades es → Takes S.Line s t ts x
    by_entries [] a e f = absurd (no_cons t ts (sym e))
    by_entries (e ∷ es) a b f =
        let p = begun_takes (AfterLine s.lines) (line_follow s.lines) S.LineNumber (record s { spot = S.Line }) GREATEST (omega arith) t ts x (lines_want s.lines s.least e es (t ∷ ts) x a b f) in
        (record s { spot = S.LineNumber; number = t - 48 }, p.0, p.1)

line_number_takes : (s : State Zipper) (t : ℕ) (ts : List ℕ) (x : List Made) → Residual S.LineNumber s (t ∷ ts) x → Takes S.LineNumber s t ts x
line_number_takes s t ts x h = going_takes (AfterLine s.lines) (line_follow s.lines) (record s { spot = S.LineNumber }) GREATEST (omega arith) (pass_line zippers) t ts x
    (λ n g. g)
    (λ a b p.
    let e : t ≡ 32 = cons_head t 32 ts p.0 p.1 in
    let f : p.0 ≡ ts = sym (cons_tail t 32 ts p.0 p.1) in
    (record s { spot = S.Rule; instance = s.number; nodes = Roots NoTrees }, ap (pass_line zippers (record s { spot = S.LineNumber })) e, subst (λ l. BeforeNode (record { lines = s.lines; instance = s.number; nodes = Roots NoTrees }) l x) f p.2))
    h

-- ---- rules

abbrev Cut : ℕ → List ℕ → ℕ → List ℕ → List ℕ → Type 0
Cut t ts c letters rest = (t ≡ c) × (ts ≡ letters ++ rest)

cut : (t : ℕ) (ts : List ℕ) (c : ℕ) (letters rest : List ℕ) → t ∷ ts ≡ c ∷ (letters ++ rest) → Cut t ts c letters rest
cut t ts c letters rest e = (cons_head t c ts (letters ++ rest) e, cons_tail t c ts (letters ++ rest) e)

module _ (s : State Zipper) (t : ℕ) (ts : List ℕ) (x : List Made) where
  -- a rule whose name reports it from the others
  named_takes : (r : RuleName) (c : ℕ) (letters rest : List ℕ) → rule_at c ≡ Some r → following_first (rule_text r) ≡ letters → t ∷ ts ≡ c ∷ (letters ++ 91 ∷ rest) → VariablesFrom (at s) r [] 0 rest x → Takes S.Rule s t ts x
  named_takes r c letters rest first following e h =
      let k = cut t ts c letters (91 ∷ rest) e in (
        record s { spot = S.Name; rule = r; letters = following_first (rule_text r) },
        ap (λ t. act_rule zippers (rule_at t) (record s { spot = S.Rule })) k.0 ∙ ap (λ o. act_rule zippers o (record s { spot = S.Rule })) first,
        subst (λ letters. Named (at s) r letters ts x) (sym following) (inl (rest, k.1, h)),
      )

  rule_takes : (r : RuleName) (rest : List ℕ) → t ∷ ts ≡ rule_text r ++ 91 ∷ rest → VariablesFrom (at s) r [] 0 rest x → Takes S.Rule s t ts x
  rule_takes R.Variable rest e h = named_takes R.Variable 86 (65 ∷ 82 ∷ []) rest refl refl e h
  rule_takes R.Scalar rest e h = named_takes R.Scalar 83 (67 ∷ 65 ∷ 76 ∷ 65 ∷ 82 ∷ []) rest refl refl e h
  rule_takes R.Tuple rest e h = named_takes R.Tuple 84 (85 ∷ 80 ∷ 76 ∷ 69 ∷ []) rest refl refl e h
  rule_takes R.Atom rest e h = named_takes R.Atom 65 (84 ∷ 79 ∷ 77 ∷ []) rest refl refl e h
  rule_takes R.Reuse rest e h = named_takes R.Reuse 82 (69 ∷ 85 ∷ 83 ∷ 69 ∷ []) rest refl refl e h
  rule_takes R.Let rest e h = named_takes R.Let 76 (69 ∷ 84 ∷ []) rest refl refl e h
  rule_takes R.Call rest e h = named_takes R.Call 67 (65 ∷ 76 ∷ 76 ∷ []) rest refl refl e h
  rule_takes R.Match rest e h = named_takes R.Match 77 (65 ∷ 84 ∷ 67 ∷ 72 ∷ []) rest refl refl e h
  rule_takes R.TakingMatch rest e h =
      let k = cut t ts 77 (65 ∷ 84 ∷ 67 ∷ 72 ∷ []) (33 ∷ 91 ∷ rest) e in (
        record s { spot = S.Name; rule = R.Match; letters = 65 ∷ 84 ∷ 67 ∷ 72 ∷ [] },
        ap (λ t. act_rule zippers (rule_at t) (record s { spot = S.Rule })) k.0,
        inr (rest, refl, k.1, h),
      )
  rule_takes R.Weaken rest e h = named_takes R.Weaken 87 (69 ∷ 65 ∷ 75 ∷ 69 ∷ 78 ∷ []) rest refl refl e h

  node_begins : (u : Tree) (rest : List ℕ) → IsNode (suc (depth s.nodes)) u → t ∷ ts ≡ tree_text u rest → Finish s.lines s.instance s.nodes u rest x → Takes S.Rule s t ts x
  node_begins Missing rest v e h = absurd v
  node_begins (Branch r vs cs us) rest v e h = rule_takes r (variables_text vs (124 ∷ credits_text cs (93 ∷ parts_text us rest))) e
      (vs, credits_text cs (93 ∷ parts_text us rest), v.1, refl, (cs, 93 ∷ parts_text us rest, v.2, refl, (us, rest, v.3, refl, h)))

  name_takes : (letters : List ℕ) → Named (at s) s.rule letters (t ∷ ts) x → Takes S.Name (record s { letters = letters }) t ts x
  name_takes [] (inl h) =
      let k = cut t ts 91 [] h.0 h.1 in (
        record s { spot = S.Variables; letters = []; variables = []; least = 0 },
        ap (act_name zippers [] (record s { spot = S.Name; letters = [] })) k.0,
        subst (λ l. VariablesFrom (at s) s.rule [] 0 l x) (sym k.1) h.2,
      )
  name_takes [] (inr h) =
      let k = cut t ts 33 [] (91 ∷ h.0) h.2 in (
        record s { spot = S.Name; letters = []; rule = R.TakingMatch },
        ap (act_name zippers [] (record s { spot = S.Name; letters = [] })) k.0
            ∙ if_yes (is_match s.rule) (Some (record s { spot = S.Name; letters = []; rule = R.TakingMatch })) None h.1,
        inl (h.0, k.1, h.3),
      )
  name_takes (c ∷ letters) (inl h) =
      let k = cut t ts c letters (91 ∷ h.0) h.1 in (
        record s { spot = S.Name; letters = letters },
        if_yes (t == c) (Some (record s { spot = S.Name; letters = letters })) None (eq-eqb t c k.0),
        inl (h.0, k.1, h.2),
      )
  name_takes (c ∷ letters) (inr h) =
      let k = cut t ts c letters (33 ∷ 91 ∷ h.0) h.2 in (
        record s { spot = S.Name; letters = letters },
        if_yes (t == c) (Some (record s { spot = S.Name; letters = letters })) None (eq-eqb t c k.0),
        inr (h.0, h.1, k.1, h.3),
      )

-- ---- variables

variables_takes : (s : State Zipper) (t : ℕ) (ts : List ℕ) (x : List Made) → Residual S.Variables s (t ∷ ts) x → Takes S.Variables s t ts x
variables_takes s t ts x h = by_items h.0 h.2 h.3 h.4
  where
    by_items : (us : List ℕ) → AreVariables s.least us → t ∷ ts ≡ variables_text us (124 ∷ h.1) → CreditsFrom (at s) s.rule (s.variables ++ us) [] 1 h.1 x → Takes S.Variables s t ts x
    by_items [] a e c = (
      record s { spot = S.Credits; credits = []; least = 1 },
      ap (act_variables zippers (record s { spot = S.Variables })) (cons_head t 124 ts h.1 e),
      subst (λ l. CreditsFrom (at s) s.rule s.variables [] 1 l x) (sym (cons_tail t 124 ts h.1 e)) (subst (λ vs. CreditsFrom (at s) s.rule vs [] 1 h.1 x) (append-nil s.variables) c),
    )
    by_items (v ∷ us) a e c =
        let p = begun_takes (AfterVariable (at s) s.rule s.variables) (variable_follow (at s) s.rule s.variables) S.VariableNumber (record s { spot = S.Variables }) GREATEST (omega arith) t ts x
        (variables_want (at s) s.rule s.variables s.least v us h.1 (t ∷ ts) x a e c) in (
          record s { spot = S.VariableNumber; number = t - 48 },
          if_not (t == 124) (to_credits zippers (record s { spot = S.Variables })) (begun zippers S.VariableNumber GREATEST (record s { spot = S.Variables }) t) (other_sign t 124 p.2 (omega arith)) ∙ p.0,
          p.1,
        )

variable_takes : (s : State Zipper) (t : ℕ) (ts : List ℕ) (x : List Made) → Residual S.Variable s (t ∷ ts) x → Takes S.Variable s t ts x
variable_takes s t ts x h =
    let p = begun_takes (AfterVariable (at s) s.rule s.variables) (variable_follow (at s) s.rule s.variables) S.VariableNumber (record s { spot = S.Variable }) GREATEST (omega arith) t ts x h in
    (record s { spot = S.VariableNumber; number = t - 48 }, p.0, p.1)

after_variable : (s : State Zipper) (t : ℕ) (ts : List ℕ) (x : List Made) → AfterVariable (at s) s.rule s.variables s.number (t ∷ ts) x → (s' : State Zipper) × (pass_variable zippers s t ≡ Some s') × Completes s' ts x
after_variable s t ts x h = by_items h.0 h.2 h.3 h.4
  where
    by_items : (us : List ℕ) → AreVariables (suc s.number) us → t ∷ ts ≡ more_variables us (124 ∷ h.1) → CreditsFrom (at s) s.rule ((s.variables ++ s.number ∷ []) ++ us) [] 1 h.1 x → (s' : State Zipper) × (pass_variable zippers s t ≡ Some s') × Completes s' ts x
    by_items [] a e c = (
      record (with_variable zippers s) { spot = S.Credits; credits = []; least = 1 },
      ap (pass_variable zippers s) (cons_head t 124 ts h.1 e),
      subst (λ l. CreditsFrom (at s) s.rule (s.variables ++ s.number ∷ []) [] 1 l x) (sym (cons_tail t 124 ts h.1 e))
          (subst (λ vs. CreditsFrom (at s) s.rule vs [] 1 h.1 x) (append-nil (s.variables ++ s.number ∷ [])) c),
    )
    by_items (v ∷ us) a e c =
        let a0 = a.0 in
        let a1 = a.1 in
        let next : State Zipper = record (with_variable zippers s) { spot = S.Variable; least = suc s.number } in (
          next,
          ap (pass_variable zippers s) (cons_head t 32 ts (decimal v ++ more_variables us (124 ∷ h.1)) e)
              ∙ if_yes (nat_lt s.number GREATEST) (Some next) None (lt-ltb s.number GREATEST (omega arith)),
          variables_want (at s) s.rule (s.variables ++ s.number ∷ []) (suc s.number) v us h.1 ts x a (cons_tail t 32 ts (decimal v ++ more_variables us (124 ∷ h.1)) e) c,
        )

variable_number_takes : (s : State Zipper) (t : ℕ) (ts : List ℕ) (x : List Made) → Residual S.VariableNumber s (t ∷ ts) x → Takes S.VariableNumber s t ts x
variable_number_takes s t ts x h = going_takes (AfterVariable (at s) s.rule s.variables) (variable_follow (at s) s.rule s.variables) (record s { spot = S.VariableNumber }) GREATEST (omega arith) (pass_variable zippers) t ts x
    (λ n g. g) (λ a b p. after_variable (record s { spot = S.VariableNumber }) t ts x p) h

-- ---- credits

head_takes : (s : State Zipper) (t : ℕ) (ts : List ℕ) (x : List Made) → HeadRest (at s) s.rule s.variables s.credits (t ∷ ts) x → (s' : State Zipper) × (t ≡ 93) × (to_parts zippers s ≡ Some s') × Completes s' ts x
head_takes s t ts x h =
    let e = cons_tail t 93 ts (parts_text h.0 h.1) h.3 in (
      record s { spot = S.Head; nodes = Part s.rule s.variables s.credits NoTrees s.nodes; variables = []; credits = [] },
      cons_head t 93 ts (parts_text h.0 h.1) h.3,
      refl,
      (h.0, h.1, h.2, e, h.4),
    )

credits_takes : (s : State Zipper) (t : ℕ) (ts : List ℕ) (x : List Made) → Residual S.Credits s (t ∷ ts) x → Takes S.Credits s t ts x
credits_takes s t ts x h = by_items h.0 h.2 h.3 h.4
  where
    by_items : (ds : List Credit) → AreCredits s.least ds → t ∷ ts ≡ credits_text ds h.1 → HeadRest (at s) s.rule s.variables (s.credits ++ ds) h.1 x → Takes S.Credits s t ts x
    by_items [] a e c =
        let p = head_takes (record s { spot = S.Credits }) t ts x (subst (λ l. HeadRest (at s) s.rule s.variables s.credits l x) (sym e) (subst (λ cs. HeadRest (at s) s.rule s.variables cs h.1 x) (append-nil s.credits) c)) in
        (p.0, ap (act_credits zippers (record s { spot = S.Credits })) p.1 ∙ p.2, p.3)
    by_items (d ∷ ds) a e c =
        let p = begun_takes (AfterSize (at s) s.rule s.variables s.credits) (size_follow (at s) s.rule s.variables s.credits) S.SizeNumber (record s { spot = S.Credits }) MOST_FIELDS (omega arith) t ts x
        (credits_want (at s) s.rule s.variables s.credits s.least d ds h.1 (t ∷ ts) x a e c) in (
          record s { spot = S.SizeNumber; number = t - 48 },
          if_not (t == 93) (to_parts zippers (record s { spot = S.Credits })) (begun zippers S.SizeNumber MOST_FIELDS (record s { spot = S.Credits }) t) (other_sign t 93 p.2 (omega arith)) ∙ p.0,
          p.1,
        )

size_takes : (s : State Zipper) (t : ℕ) (ts : List ℕ) (x : List Made) → Residual S.Size s (t ∷ ts) x → Takes S.Size s t ts x
size_takes s t ts x h =
    let p = begun_takes (AfterSize (at s) s.rule s.variables s.credits) (size_follow (at s) s.rule s.variables s.credits) S.SizeNumber (record s { spot = S.Size }) MOST_FIELDS (omega arith) t ts x h in
    (record s { spot = S.SizeNumber; number = t - 48 }, p.0, p.1)

size_number_takes : (s : State Zipper) (t : ℕ) (ts : List ℕ) (x : List Made) → Residual S.SizeNumber s (t ∷ ts) x → Takes S.SizeNumber s t ts x
size_number_takes s t ts x h = going_takes (AfterSize (at s) s.rule s.variables s.credits) (size_follow (at s) s.rule s.variables s.credits) (record s { spot = S.SizeNumber }) MOST_FIELDS (omega arith) (pass_size zippers) t ts x
    (λ n g. g)
    (λ a b p. (
      record s { spot = S.Count; size = s.number; least = 1 },
      ap (pass_size zippers (record s { spot = S.SizeNumber })) (cons_head t 58 ts p.0 p.1),
      subst (λ l. Want 1 GREATEST (AfterCount (at s) s.rule s.variables s.credits s.number) l x) (sym (cons_tail t 58 ts p.0 p.1)) p.2,
    ))
    h

count_takes : (s : State Zipper) (t : ℕ) (ts : List ℕ) (x : List Made) → Residual S.Count s (t ∷ ts) x → Takes S.Count s t ts x
count_takes s t ts x h =
    let p = begun_takes (AfterCount (at s) s.rule s.variables s.credits s.size) (count_follow (at s) s.rule s.variables s.credits s.size) S.CountNumber (record s { spot = S.Count }) GREATEST (omega arith) t ts x h in
    (record s { spot = S.CountNumber; number = t - 48 }, p.0, p.1)

abbrev so_far : State Zipper → List Credit
so_far s = s.credits ++ record { size = s.size; count = s.number } ∷ []

after_count : (s : State Zipper) (t : ℕ) (ts : List ℕ) (x : List Made) → AfterCount (at s) s.rule s.variables s.credits s.size s.number (t ∷ ts) x → (s' : State Zipper) × (pass_count zippers s t ≡ Some s') × Completes s' ts x
after_count s t ts x h = by_items h.0 h.2 h.3 h.4
  where
    by_items : (ds : List Credit) → AreCredits (suc s.size) ds → t ∷ ts ≡ more_credits ds h.1 → HeadRest (at s) s.rule s.variables ((so_far s) ++ ds) h.1 x → (s' : State Zipper) × (pass_count zippers s t ≡ Some s') × Completes s' ts x
    by_items [] a e c =
        let p = head_takes (with_credit zippers s) t ts x (subst (λ l. HeadRest (at s) s.rule s.variables (so_far s) l x) (sym e) (subst (λ cs. HeadRest (at s) s.rule s.variables cs h.1 x) (append-nil (so_far s)) c)) in
        (p.0, ap (pass_count zippers s) p.1 ∙ p.2, p.3)
    by_items (d ∷ ds) a e c =
        let a0 = a.0 in
        let a1 = a.1 in
        let next : State Zipper = record (with_credit zippers s) { spot = S.Size; least = suc s.size } in (
          next,
          ap (pass_count zippers s) (cons_head t 32 ts (credits_text (d ∷ ds) h.1) e)
              ∙ if_yes (nat_lt s.size MOST_FIELDS) (Some next) None (lt-ltb s.size MOST_FIELDS (omega arith)),
          credits_want (at s) s.rule s.variables (so_far s) (suc s.size) d ds h.1 ts x a (cons_tail t 32 ts (credits_text (d ∷ ds) h.1) e) c,
        )

count_number_takes : (s : State Zipper) (t : ℕ) (ts : List ℕ) (x : List Made) → Residual S.CountNumber s (t ∷ ts) x → Takes S.CountNumber s t ts x
count_number_takes s t ts x h = going_takes (AfterCount (at s) s.rule s.variables s.credits s.size) (count_follow (at s) s.rule s.variables s.credits s.size) (record s { spot = S.CountNumber }) GREATEST (omega arith) (pass_count zippers) t ts x
    (λ n g. g) (λ a b p. after_count (record s { spot = S.CountNumber }) t ts x p) h

-- ---- nodes

abbrev pub inside : State Zipper → RuleName → List ℕ → List Credit → Trees → Zipper → State Zipper
inside s r vs cs ds o = record s { nodes = Part r vs cs ds o }

-- after a node within another one
pub deeper : (s : State Zipper) (r : RuleName) (vs : List ℕ) (cs : List Credit) (ds : Trees) (o : Zipper) (t : ℕ) → act_node zippers (inside s r vs cs ds o) t ≡ (if t == 44 then Some (record (inside s r vs cs ds o) { spot = S.Rule }) else if t == 41 then Some (record (inside s r vs cs ds o) { spot = S.Node; nodes = add o (Branch r vs cs ds) }) else None)
deeper s r vs cs ds o t = if_not (suc (depth o) == 0) (if t == 10 then Some (record (inside s r vs cs ds o) { spot = S.Line; lines = s.lines ++ record { instance = s.instance; nodes = made (Part r vs cs ds o) } ∷ []; least = suc s.instance; nodes = Roots NoTrees }) else None)
    (if t == 44 then Some (record (inside s r vs cs ds o) { spot = S.Rule }) else if t == 41 then Some (record (inside s r vs cs ds o) { spot = S.Node; nodes = add o (Branch r vs cs ds) }) else None)
    (ne_eqb (suc (depth o)) 0 (λ e. omega (arith, e)))

node_takes : (z : Zipper) (s : State Zipper) (t : ℕ) (ts : List ℕ) (x : List Made) → After s.lines s.instance z (t ∷ ts) x → (s' : State Zipper) × (act_node zippers (record s { nodes = z }) t ≡ Some s') × Completes s' ts x
node_takes (Roots ds) s t ts x h = (
  record s { spot = S.Line; nodes = Roots NoTrees; lines = s.lines ++ finished s.instance ds ∷ []; least = suc s.instance },
  ap (act_node zippers (record s { nodes = Roots ds })) (cons_head t 10 ts (lines_text h.0) h.1),
  (h.0, h.2, cons_tail t 10 ts (lines_text h.0) h.1, h.3 ∙ sym (append_assoc s.lines (finished s.instance ds ∷ []) (mades h.0))),
)
node_takes (Part r vs cs ds o) s t ts x h = by_parts h.0 h.2 h.3 h.4
  where
    by_parts : (us : Trees) → AreNodes (suc (suc (depth o))) us → t ∷ ts ≡ more_parts us h.1 → Finish s.lines s.instance o (Branch r vs cs (join ds us)) h.1 x → (s' : State Zipper) × (act_node zippers (inside s r vs cs ds o) t ≡ Some s') × Completes s' ts x
    by_parts NoTrees v e f = (
      record (inside s r vs cs ds o) { spot = S.Node; nodes = add o (Branch r vs cs ds) },
      ap (act_node zippers (inside s r vs cs ds o)) (cons_head t 41 ts h.1 e) ∙ deeper s r vs cs ds o 41,
      subst (λ l. After s.lines s.instance (add o (Branch r vs cs ds)) l x) (sym (cons_tail t 41 ts h.1 e))
          (finish_after s.lines s.instance o (Branch r vs cs ds) h.1 x (subst (λ us. Finish s.lines s.instance o (Branch r vs cs us) h.1 x) (join_nothing ds) f)),
    )
    by_parts (MoreTrees u us) v e f = (
      record (inside s r vs cs ds o) { spot = S.Rule },
      ap (act_node zippers (inside s r vs cs ds o)) (cons_head t 44 ts (tree_text u (more_parts us h.1)) e) ∙ deeper s r vs cs ds o 44,
      (u, more_parts us h.1, v.0, cons_tail t 44 ts (tree_text u (more_parts us h.1)) e, (us, h.1, v.1, refl, f)),
    )

after_head_takes : (z : Zipper) (s : State Zipper) (t : ℕ) (ts : List ℕ) (x : List Made) → Fit S.Head (record s { nodes = z }) → AfterHead s.lines s.instance z (t ∷ ts) x → (s' : State Zipper) × (act_head zippers (record s { nodes = z }) t ≡ Some s') × Completes s' ts x
after_head_takes (Roots ds) s t ts x g h = absurd g.0
after_head_takes (Part r vs cs ds o) s t ts x g h = by_parts h.0 h.2 h.3 h.4
  where
    by_parts : (us : Trees) → AreNodes (suc (suc (depth o))) us → t ∷ ts ≡ parts_text us h.1 → Finish s.lines s.instance o (Branch r vs cs (join ds us)) h.1 x → (s' : State Zipper) × (act_head zippers (inside s r vs cs ds o) t ≡ Some s') × Completes s' ts x
    by_parts NoTrees v e f =
        let k : After s.lines s.instance (add o (Branch r vs cs ds)) (t ∷ ts) x = subst (λ l. After s.lines s.instance (add o (Branch r vs cs ds)) l x) (sym e)
        (finish_after s.lines s.instance o (Branch r vs cs ds) h.1 x (subst (λ us. Finish s.lines s.instance o (Branch r vs cs us) h.1 x) (join_nothing ds) f)) in
        let p = node_takes (add o (Branch r vs cs ds)) s t ts x k in (
          p.0,
          if_not (t == 40) (if nat_lt (suc (depth o)) DEEPEST then Some (record (inside s r vs cs ds o) { spot = S.Rule }) else None) (act_node zippers (record (inside s r vs cs ds o) { nodes = add o (Branch r vs cs ds) }) t)
              (ne_eqb t 40 (λ e. after_sign s.lines s.instance (add o (Branch r vs cs ds)) ts x (subst (λ t. After s.lines s.instance (add o (Branch r vs cs ds)) (t ∷ ts) x) e k)))
              ∙ p.1,
          p.2,
        )
    by_parts (MoreTrees u us) v e f =
        let d = node_depth (suc (suc (depth o))) u v.0 in (
          record (inside s r vs cs ds o) { spot = S.Rule },
          ap (act_head zippers (inside s r vs cs ds o)) (cons_head t 40 ts (tree_text u (more_parts us h.1)) e)
              ∙ if_yes (nat_lt (suc (depth o)) DEEPEST) (Some (record (inside s r vs cs ds o) { spot = S.Rule })) None (lt-ltb (suc (depth o)) DEEPEST (omega arith)),
          (u, more_parts us h.1, v.0, cons_tail t 40 ts (tree_text u (more_parts us h.1)) e, (us, h.1, v.1, refl, f)),
        )

takes_at : (k : Spot) (s : State Zipper) (t : ℕ) (ts : List ℕ) (x : List Made) → Fit k s → Residual k s (t ∷ ts) x → Takes k s t ts x
takes_at S.Line s t ts x g h = line_takes s t ts x h
takes_at S.LineNumber s t ts x g h = line_number_takes s t ts x h
takes_at S.Rule s t ts x g h = node_begins s t ts x h.0 h.1 h.2 h.3 h.4
takes_at S.Name s t ts x g h = name_takes s t ts x s.letters h
takes_at S.Variables s t ts x g h = variables_takes s t ts x h
takes_at S.Variable s t ts x g h = variable_takes s t ts x h
takes_at S.VariableNumber s t ts x g h = variable_number_takes s t ts x h
takes_at S.Credits s t ts x g h = credits_takes s t ts x h
takes_at S.Size s t ts x g h = size_takes s t ts x h
takes_at S.SizeNumber s t ts x g h = size_number_takes s t ts x h
takes_at S.Count s t ts x g h = count_takes s t ts x h
takes_at S.CountNumber s t ts x g h = count_number_takes s t ts x h
takes_at S.Head s t ts x g h = after_head_takes s.nodes (record s { spot = S.Head }) t ts x g h
takes_at S.Node s t ts x g h = node_takes s.nodes (record s { spot = S.Node }) t ts x h

pub takes : (s : State Zipper) (t : ℕ) (ts : List ℕ) (x : List Made) → Good s → Completes s (t ∷ ts) x → Takes s.spot s t ts x
takes s t ts x g h = takes_at s.spot s t ts x g h
