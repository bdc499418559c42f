-- Theorems of what may still come: what is after numbers is no digit, each place can be completed, and items that are
-- read one after another are items together.
use Rattle.std.proofs.Common.{◌≡◌, inl, ℕ, suc, ◌<◌, ◌≤◌, List, [], ◌∷◌, ◌++◌, refl, sym, ap, ◌∙◌, subst, append_assoc, arith}
use Rattle.std.specs.Fmt.{decimal}
use Rattle.std.proofs.lemmas.List.{append-nil}
use Rattle.fip_language.specs.declared.limits.TheConstants.{MOST_FIELDS}
use Rattle.derivation_trees.specs.declared.derivation.RuleName.{RuleName}
use Rattle.derivation_trees.specs.declared.derivation.RuleName.TheVariants as R
use Rattle.derivation_trees.specs.declared.derivation.Credit.{Credit}
use Rattle.derivation_trees.specs.Trees.{Tree, Missing, Branch, Trees, NoTrees, MoreTrees, Entry, flat}
use Rattle.derivation_text.specs.ProofText.{more_variables, variables_text, credit_text, more_credits, credits_text, tree_text, parts_text, more_parts, lines_text, GREATEST, DEEPEST, AreVariables, AreCredits, IsNode, AreEntries}
use Rattle.derivation_text.specs.Machine.{Made}
use Rattle.derivation_text.proofs.Digits.{IsBreak}
use Rattle.derivation_text.proofs.Numbers.{IsFollow, Want, no_cons, cons_head, want_alive}
use Rattle.derivation_text.proofs.Residual.{Zipper, Roots, Part, join, snoc, add, depth, made_of, mades, finished, Place, Lines, Finish, After, AfterHead, BeforeNode, HeadRest, CreditsFrom, MoreCredits, VariablesFrom, MoreVariables, Named, AfterLine, AfterVariable, AfterCount, AfterSize}

-- ---- no digit is after a number

break_at : (b : ℕ) (bs more : List ℕ) → IsBreak (b ∷ bs) → more ≡ b ∷ bs → IsBreak more
break_at b bs more h e = subst IsBreak (sym e) h

pub line_follow : (ls : List Made) → IsFollow (AfterLine ls)
line_follow ls = record {
  breaks = λ m more x p. break_at 32 p.0 more refl p.1;
  some = λ m x p. no_cons 32 p.0 p.1;
}

variables_break : (us rest more : List ℕ) → more ≡ more_variables us (124 ∷ rest) → IsBreak more
variables_break [] rest more e = break_at 124 rest more refl e
variables_break (v ∷ us) rest more e = break_at 32 (decimal v ++ more_variables us (124 ∷ rest)) more refl e

variables_some : (us rest : List ℕ) → [] ≡ more_variables us (124 ∷ rest) → ⊥
variables_some [] rest e = no_cons 124 rest e
variables_some (v ∷ us) rest e = no_cons 32 (decimal v ++ more_variables us (124 ∷ rest)) e

pub variable_follow : (k : Place) (r : RuleName) (vs : List ℕ) → IsFollow (AfterVariable k r vs)
variable_follow k r vs = record {
  breaks = λ m more x p. variables_break p.0 p.1 more p.3;
  some = λ m x p. variables_some p.0 p.1 p.3;
}

head_break : (k : Place) (r : RuleName) (vs : List ℕ) (cs : List Credit) (bs : List ℕ) (x : List Made) → HeadRest k r vs cs bs x → IsBreak bs
head_break k r vs cs bs x p = break_at 93 (parts_text p.0 p.1) bs refl p.3

head_some : (k : Place) (r : RuleName) (vs : List ℕ) (cs : List Credit) (x : List Made) → HeadRest k r vs cs [] x → ⊥
head_some k r vs cs x p = no_cons 93 (parts_text p.0 p.1) p.3

credits_break : (ds : List Credit) (rest more : List ℕ) → IsBreak rest → more ≡ more_credits ds rest → IsBreak more
credits_break [] rest more h e = subst IsBreak (sym e) h
credits_break (d ∷ ds) rest more h e = break_at 32 (credit_text d (more_credits ds rest)) more refl e

credits_some : (ds : List Credit) (rest : List ℕ) → ([] ≡ rest → ⊥) → [] ≡ more_credits ds rest → ⊥
credits_some [] rest h e = h e
credits_some (d ∷ ds) rest h e = no_cons 32 (credit_text d (more_credits ds rest)) e

pub count_follow : (k : Place) (r : RuleName) (vs : List ℕ) (cs : List Credit) (size : ℕ) → IsFollow (AfterCount k r vs cs size)
count_follow k r vs cs size = record {
  breaks = λ m more x p. credits_break p.0 p.1 more (head_break k r vs ((cs ++ record { size = size; count = m } ∷ []) ++ p.0) p.1 x p.4) p.3;
  some = λ m x p. credits_some p.0 p.1 (λ e. head_some k r vs ((cs ++ record { size = size; count = m } ∷ []) ++ p.0) x
      (subst (λ bs. HeadRest k r vs ((cs ++ record { size = size; count = m } ∷ []) ++ p.0) bs x) (sym e) p.4)) p.3;
}

pub size_follow : (k : Place) (r : RuleName) (vs : List ℕ) (cs : List Credit) → IsFollow (AfterSize k r vs cs)
size_follow k r vs cs = record {
  breaks = λ m more x p. break_at 58 p.0 more refl p.1;
  some = λ m x p. no_cons 58 p.0 p.1;
}

-- ---- trees

pub join_nothing : (ts : Trees) → join ts NoTrees ≡ ts
join_nothing NoTrees = refl
join_nothing (MoreTrees t ts) = ap (λ us. MoreTrees t us) (join_nothing ts)

pub join_snoc : (ds : Trees) (t : Tree) (ts : Trees) → join (snoc ds t) ts ≡ join ds (MoreTrees t ts)
join_snoc NoTrees t ts = refl
join_snoc (MoreTrees d ds) t ts = ap (λ us. MoreTrees d us) (join_snoc ds t ts)

pub finish_after : (ls : List Made) (i : ℕ) (z : Zipper) (t : Tree) (bs : List ℕ) (x : List Made) → Finish ls i z t bs x → After ls i (add z t) bs x
finish_after ls i (Roots ds) t bs x h = h
finish_after ls i (Part r vs cs ds o) t bs x h =
    (h.0, h.1, h.2, h.3, subst (λ us. Finish ls i o (Branch r vs cs us) h.1 x) (sym (join_snoc ds t h.0)) h.4)

pub after_finish : (ls : List Made) (i : ℕ) (z : Zipper) (t : Tree) (bs : List ℕ) (x : List Made) → After ls i (add z t) bs x → Finish ls i z t bs x
after_finish ls i (Roots ds) t bs x h = h
after_finish ls i (Part r vs cs ds o) t bs x h =
    (h.0, h.1, h.2, h.3, subst (λ us. Finish ls i o (Branch r vs cs us) h.1 x) (join_snoc ds t h.0) h.4)

pub node_depth : (d : ℕ) (t : Tree) → IsNode d t → d ≤ DEEPEST
node_depth d Missing h = absurd h
node_depth d (Branch r vs cs ts) h = h.0

-- the parts of an open node don't begin here
pub after_sign : (ls : List Made) (i : ℕ) (z : Zipper) (bs : List ℕ) (x : List Made) → After ls i z (40 ∷ bs) x → ⊥
after_sign ls i (Roots ds) bs x h = absurd (let e : 40 ≡ 10 = cons_head 40 10 bs (lines_text h.0) h.1 in omega (arith, e))
after_sign ls i (Part r vs cs ds o) bs x h = at_parts h.0 h.3
  where
    at_parts : (ts : Trees) → 40 ∷ bs ≡ more_parts ts h.1 → ⊥
    at_parts NoTrees e = absurd (let f : 40 ≡ 41 = cons_head 40 41 bs h.1 e in omega (arith, f))
    at_parts (MoreTrees t ts) e = absurd (let f : 40 ≡ 44 = cons_head 40 44 bs (tree_text t (more_parts ts h.1)) e in omega (arith, f))

-- ---- each place can be completed

abbrev pub Some2 : (List ℕ → List Made → Type 0) → Type 0
Some2 P = (bs : List ℕ) × (x : List Made) × P bs x

pub lines_alive : (ls : List Made) (i : ℕ) (ds : Trees) → Some2 (Lines ls i ds)
lines_alive ls i ds = (10 ∷ [], ls ++ finished i ds ∷ [], ([], refl, tt, refl))

pub finish_alive : (ls : List Made) (i : ℕ) (z : Zipper) (t : Tree) → Some2 (Finish ls i z t)
finish_alive ls i (Roots ds) t = lines_alive ls i (snoc ds t)
finish_alive ls i (Part r vs cs ds o) t =
    let p = finish_alive ls i o (Branch r vs cs (join ds (MoreTrees t NoTrees))) in
    (41 ∷ p.0, p.1, (NoTrees, p.0, tt, refl, p.2))

pub after_alive : (ls : List Made) (i : ℕ) (z : Zipper) → Some2 (After ls i z)
after_alive ls i (Roots ds) = lines_alive ls i ds
after_alive ls i (Part r vs cs ds o) =
    let p = finish_alive ls i o (Branch r vs cs (join ds NoTrees)) in
    (41 ∷ p.0, p.1, (NoTrees, p.0, tt, refl, p.2))

pub after_head_alive : (ls : List Made) (i : ℕ) (z : Zipper) → Some2 (AfterHead ls i z)
after_head_alive ls i (Roots ds) = lines_alive ls i ds
after_head_alive ls i (Part r vs cs ds o) =
    let p = finish_alive ls i o (Branch r vs cs (join ds NoTrees)) in
    (p.0, p.1, (NoTrees, p.0, tt, refl, p.2))

pub head_alive : (k : Place) (r : RuleName) (vs : List ℕ) (cs : List Credit) → Some2 (HeadRest k r vs cs)
head_alive k r vs cs =
    let p = finish_alive k.lines k.instance k.nodes (Branch r vs cs NoTrees) in
    (93 ∷ p.0, p.1, (NoTrees, p.0, tt, refl, p.2))

pub credits_alive : (k : Place) (r : RuleName) (vs : List ℕ) (cs : List Credit) (least : ℕ) → Some2 (CreditsFrom k r vs cs least)
credits_alive k r vs cs least =
    let p = head_alive k r vs (cs ++ []) in
    (p.0, p.1, ([], p.0, tt, refl, p.2))

pub more_credits_alive : (k : Place) (r : RuleName) (vs : List ℕ) (cs : List Credit) (least : ℕ) → Some2 (MoreCredits k r vs cs least)
more_credits_alive k r vs cs least =
    let p = head_alive k r vs (cs ++ []) in
    (p.0, p.1, ([], p.0, tt, refl, p.2))

pub variables_alive : (k : Place) (r : RuleName) (vs : List ℕ) (least : ℕ) → Some2 (VariablesFrom k r vs least)
variables_alive k r vs least =
    let p = credits_alive k r (vs ++ []) [] 1 in
    (124 ∷ p.0, p.1, ([], p.0, tt, refl, p.2))

pub more_variables_alive : (k : Place) (r : RuleName) (vs : List ℕ) (least : ℕ) → Some2 (MoreVariables k r vs least)
more_variables_alive k r vs least =
    let p = credits_alive k r (vs ++ []) [] 1 in
    (124 ∷ p.0, p.1, ([], p.0, tt, refl, p.2))

pub size_alive : (k : Place) (r : RuleName) (vs : List ℕ) (cs : List Credit) (size : ℕ) → Some2 (AfterSize k r vs cs size)
size_alive k r vs cs size =
    let p = want_alive (AfterCount k r vs cs size) (count_follow k r vs cs size) 1 GREATEST (omega arith) (omega arith)
    (λ m a b. more_credits_alive k r vs (cs ++ record { size = size; count = m } ∷ []) (suc size)) in
    (58 ∷ p.0, p.1, (p.0, refl, p.2))

pub named_alive : (k : Place) (r : RuleName) (letters : List ℕ) → Some2 (Named k r letters)
named_alive k r letters =
    let p = variables_alive k r [] 0 in
    (letters ++ 91 ∷ p.0, p.1, inl (p.0, refl, p.2))

-- a node of the rule ATOM
pub node_alive : (k : Place) → depth k.nodes < DEEPEST → Some2 (BeforeNode k)
node_alive k lt =
    let p = finish_alive k.lines k.instance k.nodes (Branch R.Atom [] [] NoTrees) in
    (tree_text (Branch R.Atom [] [] NoTrees) p.0, p.1, (Branch R.Atom [] [] NoTrees, p.0, (omega arith, tt, tt, tt), refl, p.2))

pub line_alive : (ls : List Made) (m : ℕ) → Some2 (AfterLine ls m)
line_alive ls m =
    let p = node_alive (record { lines = ls; instance = m; nodes = Roots NoTrees }) (omega arith) in
    (32 ∷ p.0, p.1, (p.0, refl, p.2))

-- ---- items one after another

pub variables_want : (k : Place) (r : RuleName) (vs : List ℕ) (least v : ℕ) (us rest bs : List ℕ) (x : List Made) → AreVariables least (v ∷ us) → bs ≡ variables_text (v ∷ us) (124 ∷ rest) → CreditsFrom k r (vs ++ v ∷ us) [] 1 rest x → Want least GREATEST (AfterVariable k r vs) bs x
variables_want k r vs least v us rest bs x a e h =
    (v, more_variables us (124 ∷ rest), a.0, a.1, e, (us, rest, a.2, refl, subst (λ ws. CreditsFrom k r ws [] 1 rest x) (sym (append_assoc vs (v ∷ []) us)) h))

pub want_variables : (k : Place) (r : RuleName) (vs : List ℕ) (least : ℕ) (bs : List ℕ) (x : List Made) → Want least GREATEST (AfterVariable k r vs) bs x → (v : ℕ) × (us : List ℕ) × (rest : List ℕ) × AreVariables least (v ∷ us) × (bs ≡ variables_text (v ∷ us) (124 ∷ rest)) × CreditsFrom k r (vs ++ v ∷ us) [] 1 rest x
want_variables k r vs least bs x h =
    let b = h.5 in
    (h.0, b.0, b.1, (h.2, h.3, b.2), h.4 ∙ ap (λ l. decimal h.0 ++ l) b.3, subst (λ ws. CreditsFrom k r ws [] 1 b.1 x) (append_assoc vs (h.0 ∷ []) b.0) b.4)

pub credits_want : (k : Place) (r : RuleName) (vs : List ℕ) (cs : List Credit) (least : ℕ) (d : Credit) (ds : List Credit) (rest bs : List ℕ) (x : List Made) → AreCredits least (d ∷ ds) → bs ≡ credits_text (d ∷ ds) rest → HeadRest k r vs (cs ++ d ∷ ds) rest x → Want least MOST_FIELDS (AfterSize k r vs cs) bs x
credits_want k r vs cs least d ds rest bs x a e h = (
  d.size,
  58 ∷ decimal d.count ++ more_credits ds rest,
  a.0,
  a.1,
  e,
  (
    decimal d.count ++ more_credits ds rest,
    refl,
    (d.count, more_credits ds rest, a.2, a.3, refl, (ds, rest, a.4, refl, subst (λ ws. HeadRest k r vs ws rest x) (sym (append_assoc cs (d ∷ []) ds)) h)),
  ),
)

pub want_credits : (k : Place) (r : RuleName) (vs : List ℕ) (cs : List Credit) (least : ℕ) (bs : List ℕ) (x : List Made) → Want least MOST_FIELDS (AfterSize k r vs cs) bs x → (d : Credit) × (ds : List Credit) × (rest : List ℕ) × AreCredits least (d ∷ ds) × (bs ≡ credits_text (d ∷ ds) rest) × HeadRest k r vs (cs ++ d ∷ ds) rest x
want_credits k r vs cs least bs x h =
    let b = h.5 in
    let c = b.2 in
    let f = c.5 in
    let d : Credit = record { size = h.0; count = c.0 } in (
      d,
      f.0,
      f.1,
      (h.2, h.3, c.2, c.3, f.2),
      h.4 ∙ ap (λ l. decimal h.0 ++ l) (b.1 ∙ ap (λ l. 58 ∷ l) (c.4 ∙ ap (λ l. decimal c.0 ++ l) f.3)),
      subst (λ ws. HeadRest k r vs ws f.1 x) (append_assoc cs (d ∷ []) f.0) f.4,
    )

finished_entry : (e : Entry) → finished e.instance (MoreTrees e.tree NoTrees) ≡ made_of e
finished_entry e = ap (λ hs. record { instance = e.instance; nodes = hs }) (append-nil (flat e.tree))

pub lines_want : (ls : List Made) (least : ℕ) (e : Entry) (es : List Entry) (bs : List ℕ) (x : List Made) → AreEntries least (e ∷ es) → bs ≡ lines_text (e ∷ es) → x ≡ ls ++ mades (e ∷ es) → Want least GREATEST (AfterLine ls) bs x
lines_want ls least e es bs x a b h = (
  e.instance,
  32 ∷ tree_text e.tree (10 ∷ lines_text es),
  a.0,
  a.1,
  b,
  (
    tree_text e.tree (10 ∷ lines_text es),
    refl,
    (e.tree, 10 ∷ lines_text es, a.2, refl, (es, refl, a.3, h ∙ ap (λ m. ls ++ m ∷ mades es) (sym (finished_entry e)))),
  ),
)

pub want_lines : (ls : List Made) (least : ℕ) (bs : List ℕ) (x : List Made) → Want least GREATEST (AfterLine ls) bs x → (e : Entry) × (es : List Entry) × AreEntries least (e ∷ es) × (bs ≡ lines_text (e ∷ es)) × (x ≡ ls ++ mades (e ∷ es))
want_lines ls least bs x h =
    let b = h.5 in
    let n = b.2 in
    let f = n.4 in
    let e : Entry = record { instance = h.0; tree = n.0 } in (
      e,
      f.0,
      (h.2, h.3, n.2, f.2),
      h.4 ∙ ap (λ l. decimal h.0 ++ l) (b.1 ∙ ap (λ l. 32 ∷ l) (n.3 ∙ ap (tree_text n.0) f.1)),
      f.3 ∙ ap (λ m. ls ++ m ∷ mades f.0) (finished_entry e),
    )
