-- The machine is exact: it accepts just the texts, and stops at the least bad place.
use Rattle.std.proofs.Common.{◌≡◌, inl, inr, ℕ, suc, List, [], ◌∷◌, ◌++◌, Some, refl, sym, ap, ◌∙◌, subst, arith}
use Rattle.std.proofs.lemmas.List.{append-nil}
use Rattle.fip_language.specs.declared.limits.TheConstants.{MOST_FIELDS}
use Rattle.fip_language.specs.Prefix.{Accepted, Stopped, run, IsPlace}
use Rattle.fip_language.proofs.Prefix.{IsExact, stops_at_place, accepts, accepted}
use Rattle.derivation_trees.specs.declared.derivation.RuleName.{RuleName}
use Rattle.derivation_trees.specs.declared.derivation.RuleName.TheVariants as R
use Rattle.derivation_trees.specs.declared.derivation.Credit.{Credit}
use Rattle.derivation_trees.specs.Trees.{Tree, Missing, Branch, Trees, NoTrees, MoreTrees, Entry}
use Rattle.derivation_text.specs.declared.spot.Spot.{Spot}
use Rattle.derivation_text.specs.declared.spot.Spot.TheVariants as S
use Rattle.derivation_text.specs.ProofText.{rule_text, variables_text, credits_text, tree_text, parts_text, more_parts, lines_text, GREATEST, AreVariables, AreCredits, IsNode, AreEntries, IsProofText}
use Rattle.derivation_text.specs.Machine.{Made, State, start, step, final}
use Rattle.derivation_text.proofs.Numbers.{no_cons, want_end, going_end, want_alive, going_alive}
use Rattle.derivation_text.proofs.Residual.{Zipper, Roots, Part, join, depth, zippers, mades, Finish, After, AfterHead, HeadRest, CreditsFrom, Named, AfterLine, AfterVariable, AfterCount, AfterSize, at, Residual, Completes, Fit, Good}
use Rattle.derivation_text.proofs.Parts.{line_follow, variable_follow, count_follow, size_follow, variables_want, credits_want, lines_want, after_alive, after_head_alive, credits_alive, more_credits_alive, variables_alive, more_variables_alive, size_alive, named_alive, node_alive, line_alive}
use Rattle.derivation_text.proofs.Takes.{takes}
use Rattle.derivation_text.proofs.Gives.{moves}

-- ---- alive

alive_at : (k : Spot) (s : State Zipper) → Fit k s → (bs : List ℕ) × (x : List Made) × Residual k s bs x
alive_at S.Line s g = ([], s.lines, ([], tt, refl, sym (append-nil s.lines)))
alive_at S.LineNumber s g = going_alive (AfterLine s.lines) (line_follow s.lines) s.least GREATEST (omega arith) s.number g (λ m a b. line_alive s.lines m)
alive_at S.Rule s g = node_alive (at s) g
alive_at S.Name s g = named_alive (at s) s.rule s.letters
alive_at S.Variables s g = variables_alive (at s) s.rule s.variables s.least
alive_at S.Variable s g = want_alive (AfterVariable (at s) s.rule s.variables) (variable_follow (at s) s.rule s.variables) s.least GREATEST (omega arith) g.1 (λ m a b. more_variables_alive (at s) s.rule (s.variables ++ m ∷ []) (suc m))
alive_at S.VariableNumber s g = going_alive (AfterVariable (at s) s.rule s.variables) (variable_follow (at s) s.rule s.variables) s.least GREATEST (omega arith) s.number g.1 (λ m a b. more_variables_alive (at s) s.rule (s.variables ++ m ∷ []) (suc m))
alive_at S.Credits s g = credits_alive (at s) s.rule s.variables s.credits s.least
alive_at S.Size s g = want_alive (AfterSize (at s) s.rule s.variables s.credits) (size_follow (at s) s.rule s.variables s.credits) s.least MOST_FIELDS (omega arith) g.1 (λ m a b. size_alive (at s) s.rule s.variables s.credits m)
alive_at S.SizeNumber s g = going_alive (AfterSize (at s) s.rule s.variables s.credits) (size_follow (at s) s.rule s.variables s.credits) s.least MOST_FIELDS (omega arith) s.number g.1 (λ m a b. size_alive (at s) s.rule s.variables s.credits m)
alive_at S.Count s g = want_alive (AfterCount (at s) s.rule s.variables s.credits s.size) (count_follow (at s) s.rule s.variables s.credits s.size) s.least GREATEST (omega arith) g.1 (λ m a b. more_credits_alive (at s) s.rule s.variables (s.credits ++ record { size = s.size; count = m } ∷ []) (suc s.size))
alive_at S.CountNumber s g = going_alive (AfterCount (at s) s.rule s.variables s.credits s.size) (count_follow (at s) s.rule s.variables s.credits s.size) s.least GREATEST (omega arith) s.number g.1 (λ m a b. more_credits_alive (at s) s.rule s.variables (s.credits ++ record { size = s.size; count = m } ∷ []) (suc s.size))
alive_at S.Head s g = after_head_alive s.lines s.instance s.nodes
alive_at S.Node s g = after_alive s.lines s.instance s.nodes

-- ---- the end

rule_some : (r : RuleName) (rest : List ℕ) → [] ≡ rule_text r ++ 91 ∷ rest → ⊥
rule_some R.Variable rest e = cc
rule_some R.Scalar rest e = cc
rule_some R.Tuple rest e = cc
rule_some R.Atom rest e = cc
rule_some R.Reuse rest e = cc
rule_some R.Let rest e = cc
rule_some R.Call rest e = cc
rule_some R.Match rest e = cc
rule_some R.TakingMatch rest e = cc
rule_some R.Weaken rest e = cc

node_some : (d : ℕ) (t : Tree) (rest : List ℕ) → IsNode d t → [] ≡ tree_text t rest → ⊥
node_some d Missing rest v e = v
node_some d (Branch r vs cs ts) rest v e = rule_some r (variables_text vs (124 ∷ credits_text cs (93 ∷ parts_text ts rest))) e

letters_some : (letters : List ℕ) (b : ℕ) (rest : List ℕ) → [] ≡ letters ++ b ∷ rest → ⊥
letters_some [] b rest e = no_cons b rest e
letters_some (c ∷ letters) b rest e = no_cons c (letters ++ b ∷ rest) e

parts_some : (ts : Trees) (rest : List ℕ) → [] ≡ more_parts ts rest → ⊥
parts_some NoTrees rest e = no_cons 41 rest e
parts_some (MoreTrees t ts) rest e = no_cons 44 (tree_text t (more_parts ts rest)) e

after_some : (s : State Zipper) (z : Zipper) (x : List Made) → After s.lines s.instance z [] x → ⊥
after_some s (Roots ds) x h = no_cons 10 (lines_text h.0) h.1
after_some s (Part r vs cs ds o) x h = parts_some h.0 h.1 h.3

finish_some : (s : State Zipper) (z : Zipper) (t : Tree) (x : List Made) → Finish s.lines s.instance z t [] x → ⊥
finish_some s (Roots ds) t x h = no_cons 10 (lines_text h.0) h.1
finish_some s (Part r vs cs ds o) t x h = parts_some h.0 h.1 h.3

head_some : (s : State Zipper) (z : Zipper) (x : List Made) → AfterHead s.lines s.instance z [] x → ⊥
head_some s (Roots ds) x h = no_cons 10 (lines_text h.0) h.1
head_some s (Part r vs cs ds o) x h = by_parts h.0 h.3
  where
    by_parts : (ts : Trees) → [] ≡ parts_text ts h.1 → ⊥
    by_parts NoTrees e = finish_some s o (Branch r vs cs (join ds h.0)) x (subst (λ l. Finish s.lines s.instance o (Branch r vs cs (join ds h.0)) l x) (sym e) h.4)
    by_parts (MoreTrees t ts) e = no_cons 40 (tree_text t (more_parts ts h.1)) e

lines_some : (s : State Zipper) (x : List Made) → Residual S.Line s [] x → Some s.lines ≡ Some x
lines_some s x h = by_entries h.0 h.1 h.2 h.3
  where
    by_entries : (es : List Entry) → AreEntries s.least es → [] ≡ lines_text es → x ≡ s.lines ++ mades es → Some s.lines ≡ Some x
    by_entries [] a e f = ap Some (sym (f ∙ append-nil s.lines))
    by_entries (e ∷ es) a b f = absurd (want_end (AfterLine s.lines) (line_follow s.lines) s.least GREATEST (omega arith) x (lines_want s.lines s.least e es [] x a b f))

named_some : (s : State Zipper) (x : List Made) → Named (at s) s.rule s.letters [] x → ⊥
named_some s x (inl h) = letters_some s.letters 91 h.0 h.1
named_some s x (inr h) = letters_some s.letters 33 (91 ∷ h.0) h.2

variables_some : (s : State Zipper) (x : List Made) → Residual S.Variables s [] x → ⊥
variables_some s x h = by_items h.0 h.2 h.3 h.4
  where
    by_items : (us : List ℕ) → AreVariables s.least us → [] ≡ variables_text us (124 ∷ h.1) → CreditsFrom (at s) s.rule (s.variables ++ us) [] 1 h.1 x → ⊥
    by_items [] a e c = no_cons 124 h.1 e
    by_items (v ∷ us) a e c = want_end (AfterVariable (at s) s.rule s.variables) (variable_follow (at s) s.rule s.variables) s.least GREATEST (omega arith) x
        (variables_want (at s) s.rule s.variables s.least v us h.1 [] x a e c)

credits_some : (s : State Zipper) (x : List Made) → Residual S.Credits s [] x → ⊥
credits_some s x h = by_items h.0 h.2 h.3 h.4
  where
    by_items : (ds : List Credit) → AreCredits s.least ds → [] ≡ credits_text ds h.1 → HeadRest (at s) s.rule s.variables (s.credits ++ ds) h.1 x → ⊥
    by_items [] a e c = no_cons 93 (parts_text c.0 c.1) (e ∙ c.3)
    by_items (d ∷ ds) a e c = want_end (AfterSize (at s) s.rule s.variables s.credits) (size_follow (at s) s.rule s.variables s.credits) s.least MOST_FIELDS (omega arith) x
        (credits_want (at s) s.rule s.variables s.credits s.least d ds h.1 [] x a e c)

ends_at : (k : Spot) (s : State Zipper) (x : List Made) → Residual k s [] x → final (record s { spot = k }) ≡ Some x
ends_at S.Line s x h = lines_some s x h
ends_at S.LineNumber s x h = absurd (going_end (AfterLine s.lines) (line_follow s.lines) s.least GREATEST (omega arith) s.number x h)
ends_at S.Rule s x h = absurd (node_some (suc (depth s.nodes)) h.0 h.1 h.2 h.3)
ends_at S.Name s x h = absurd (named_some s x h)
ends_at S.Variables s x h = absurd (variables_some s x h)
ends_at S.Variable s x h = absurd (want_end (AfterVariable (at s) s.rule s.variables) (variable_follow (at s) s.rule s.variables) s.least GREATEST (omega arith) x h)
ends_at S.VariableNumber s x h = absurd (going_end (AfterVariable (at s) s.rule s.variables) (variable_follow (at s) s.rule s.variables) s.least GREATEST (omega arith) s.number x h)
ends_at S.Credits s x h = absurd (credits_some s x h)
ends_at S.Size s x h = absurd (want_end (AfterSize (at s) s.rule s.variables s.credits) (size_follow (at s) s.rule s.variables s.credits) s.least MOST_FIELDS (omega arith) x h)
ends_at S.SizeNumber s x h = absurd (going_end (AfterSize (at s) s.rule s.variables s.credits) (size_follow (at s) s.rule s.variables s.credits) s.least MOST_FIELDS (omega arith) s.number x h)
ends_at S.Count s x h = absurd (want_end (AfterCount (at s) s.rule s.variables s.credits s.size) (count_follow (at s) s.rule s.variables s.credits s.size) s.least GREATEST (omega arith) x h)
ends_at S.CountNumber s x h = absurd (going_end (AfterCount (at s) s.rule s.variables s.credits s.size) (count_follow (at s) s.rule s.variables s.credits s.size) s.least GREATEST (omega arith) s.number x h)
ends_at S.Head s x h = absurd (head_some s s.nodes x h)
ends_at S.Node s x h = absurd (after_some s s.nodes x h)

ended_at : (k : Spot) (s : State Zipper) (x : List Made) → final (record s { spot = k }) ≡ Some x → Residual k s [] x
ended_at S.Line s x h = ([], tt, refl, (let e : s.lines ≡ x = cc in sym e ∙ sym (append-nil s.lines)))
ended_at _ s x h = cc

exact : IsExact (step zippers) final Good Completes
exact = record {
  takes = λ s t ts x g h. takes s t ts x g h;
  gives = λ s s' t ts x g e h. (moves s s' t g e).1 ts x h;
  keeps = λ s s' t g e. (moves s s' t g e).0;
  alive = λ s g. alive_at s.spot s g;
  ends = λ s x g h. ends_at s.spot s x h;
  ended = λ s x g h. ended_at s.spot s x h;
}

-- ---- texts

-- Where the machine stops is the least bad place.
pub stops : (bs : List ℕ) (t : ℕ) → run (step zippers) final (start zippers) bs 0 ≡ Stopped t → IsPlace IsProofText bs t
stops bs t h =
    let p = stops_at_place (step zippers) final Good Completes exact (start zippers) bs t tt h in
    record {
      within = p.within;
      before = (let b = p.before in let c = b.2 in (b.0, c.0, (c.1, c.2)));
      there = λ lt b. p.there lt (b.0, mades b.1, (b.1, b.2.0, b.2.1, refl));
      at_end = λ e x s. p.at_end e (mades x) (x, s.0, s.1, refl);
    }

-- What it accepts is a text.
pub accepts_texts : (bs : List ℕ) (x : List Made) → run (step zippers) final (start zippers) bs 0 ≡ Accepted x → (es : List Entry) × IsProofText bs es × (x ≡ mades es)
accepts_texts bs x h =
    let c = accepted (step zippers) final Good Completes exact bs x (start zippers) 0 tt h in
    (c.0, (c.1, c.2), c.3)

-- Each text is accepted.
pub texts_accepted : (bs : List ℕ) (es : List Entry) → IsProofText bs es → run (step zippers) final (start zippers) bs 0 ≡ Accepted (mades es)
texts_accepted bs es h = accepts (step zippers) final Good Completes exact bs (start zippers) 0 (mades es) tt (es, h.0, h.1, refl)
