-- How what is given up, and what ends a function, is laid out.
use Rattle.std.proofs.Common.{◌≡◌, inl, inr, refl, sym, ap, ◌∙◌, subst, arith, true≢false, ℕ, zero, suc, ◌-◌, ◌≤◌, ◌<◌, Bool, true, false, not, List, [], ◌∷◌, Option, Some, None, slice_get}
use Rattle.std.proofs.lemmas.Bool.{cases_eq}
use Rattle.fip_language.specs.declared.limits.TheConstants.{MOST_FIELDS}
use Rattle.fip_language.specs.declared.Operator.{Operator}
use Rattle.fip_language.specs.declared.Place.{Place}
use Rattle.fip_trees.specs.Tree.{Instance}
use Rattle.cell_code.specs.declared.code.Instr.{Instr}
use Rattle.cell_code.specs.declared.code.Instr.TheVariants as I
use Rattle.cell_code.specs.Plain.{PlainFunction}
use Rattle.lower_frame.specs.lowering_relation.declared.held.Held.{Held}
use Rattle.lower_frame.specs.lowering_relation.declared.held.Held.TheVariants as H
use Rattle.lower_frame.specs.lowering_relation.Known.{Known, joined, holding, using, used, used_all, is_owned}
use Rattle.lower_frame.specs.lowering_relation.Values.{Setting}
use Rattle.lower_frame.specs.lowering_relation.LoweredBodies.{Target, Return, Into, GoesTo, result_type, handed, AreTaken, received}
use Rattle.lower_frame.specs.lowering_relation.Losing.{Barer, Loses}
use Rattle.lower_frame.specs.lowering_relation.Written.{Written, size, added, settled, Extends}
use Rattle.lower_frame.proofs.lowering_relation.Placing.{same_extends, extends_on, added_extends, one_longer, front, back, stands}
use Rattle.lower_frame.specs.lowering_relation.Describing.{held_at as holding_at, is_tree}
use Rattle.lower_frame.specs.lowering_relation.Credits.{LastGone}
use Rattle.lower_frame.specs.lowering_relation.GivenUp.{GivesUp, GivesOne}
use Rattle.lower_frame.specs.lowering_relation.Handed.{GivenLaid, EndsCallLaid}
use Rattle.lower_frame.specs.Registers.{HasRoom, registers}
use Rattle.lower_frame.specs.Credits.{is_credit, Accounted, FewerTrees, NoBares, NoTrees, NoneBetween, is_bare, sized}
use Rattle.lower_frame.specs.Frames.{Takes}
use Rattle.lower_frame.proofs.Accounts.{last_same, all_solid_on, no_new_credit, not_of, put_accounted, received_accounted, set_itself, last_on, trees_same, trees_on, trees_set, trees_used, bare_accounted, used_accounted, used_all_accounted, taken_accounted, taken_less, taken_others, none_sized, no_credits, next_accounted, handed_accounted}
use Rattle.lower_parts.specs.Laying.{IntoAt, ResultsIn, GivesUpLaid, SpendsAll, SpendsPast, AllGone, AccountedAt, GivesLaid, OperatesLaid, EndsLaid, CallsLaid}
use Rattle.lower_parts.specs.Writing.{HandsOn, Moves, TakesAll}
use Rattle.lower_frame.proofs.Growing.{room_same}
use Rattle.lower_parts.proofs.Shedding.{goes_length, handed_length, taken_length}
use Rattle.lower_parts.proofs.Arriving.{get_held}

-- what registers hold

pub held_get : (hs : List Held) (r : ℕ) (h : Held) → slice_get hs r ≡ Some h → holding_at hs r ≡ h
held_get [] r h e = absurd (cc)
held_get (x ∷ hs) zero h e = cc
held_get (x ∷ hs) (suc r) h e = held_get hs r h e

pub owned_tree : (hs : List Held) (r : ℕ) → is_tree (holding_at hs r) ≡ is_owned (slice_get hs r)
owned_tree [] r = refl
owned_tree (H.Nothing ∷ hs) zero = refl
owned_tree (H.Scalar t ∷ hs) zero = refl
owned_tree (H.Owned t b ∷ hs) zero = refl
owned_tree (H.Lent t root ∷ hs) zero = refl
owned_tree (H.Credit n ∷ hs) zero = refl
owned_tree (H.Bare t c ∷ hs) zero = refl
owned_tree (h ∷ hs) (suc r) = owned_tree hs r

bare_there : (o : Option Held) → is_bare o ≡ true → (t : ℕ) × (c : ℕ) × (o ≡ Some (H.Bare t c))
bare_there None e = absurd (true≢false (sym e))
bare_there (Some H.Nothing) e = absurd (true≢false (sym e))
bare_there (Some (H.Scalar t)) e = absurd (true≢false (sym e))
bare_there (Some (H.Owned t b)) e = absurd (true≢false (sym e))
bare_there (Some (H.Lent t root)) e = absurd (true≢false (sym e))
bare_there (Some (H.Credit n)) e = absurd (true≢false (sym e))
bare_there (Some (H.Bare t c)) e = (t, c, refl)

-- instructions that give up, one after another

gives_on : (fip : Bool) (f : PlainFunction) (n m a b e : ℕ) (k l r : Known) → GivesUp fip f n a k b l → GivesUp fip f m b l e r → (p : ℕ) × GivesUp fip f p a k e r
gives_on fip f zero m a b e k l r g h = (m, subst (λ x. GivesUp fip f m x k e r) g.0 (subst (λ x. GivesUp fip f m b x e r) g.1 h))
gives_on fip f (suc n) m a b e k l r g h = let x = gives_on fip f n m (suc a) b e g.0 l r g.2 h in (suc x.0, (g.0, g.1, x.1))

pub laid_same : (fip : Bool) (k : Known) (v : Written) → GivesUpLaid fip k v k v
laid_same fip k v = record { extends = same_extends v; maps = refl; next = refl; accounts = λ a. a; trees = trees_same k.held; by = λ to f h. (0, (refl, refl)) }

pub laid_on : (fip : Bool) (k : Known) (v : Written) (l : Known) (w : Written) (m : Known) (z : Written) → GivesUpLaid fip k v l w → GivesUpLaid fip l w m z → GivesUpLaid fip k v m z
laid_on fip k v l w m z a b = record {
  extends = extends_on v w z a.extends b.extends;
  maps = b.maps ∙ a.maps;
  next = b.next ∙ a.next;
  accounts = λ x. b.accounts (a.accounts x);
  trees = trees_on k.held l.held m.held a.trees b.trees;
  by = λ to f h.
      let x = a.by to f (front (size v) w z to f.instrs b.extends h) in
      let y = b.by to f (back (size v) (size w) z to f.instrs a.extends.grows h) in
      gives_on fip f x.0 y.0 (size v) (size w) (size z) k l m x.1 y.1;
}

laid_one : (fip : Bool) (k l : Known) (v : Written) (i : Instr) → l.next ≡ k.next → (Accounted k → Accounted l) → FewerTrees k.held l.held → ((to : ℕ → ℕ) (f : PlainFunction) → slice_get f.instrs (size v) ≡ Some (settled to i) → GivesOne fip f (size v) k l) → GivesUpLaid fip k v l (added v i)
laid_one fip k l v i next accounts trees one = record {
  extends = added_extends v i;
  maps = refl;
  next = next;
  accounts = accounts;
  trees = trees;
  by = λ to f h. (1, (l, one to f (stands v i (size v) to f.instrs (omega arith) h), (one_longer v i, refl)));
}

pub laid_take : (k l : Known) (v w : Written) (r : ℕ) → is_bare (slice_get k.held r) ≡ true → l ≡ holding k r H.Nothing → w ≡ added v (I.Take r []) → GivesUpLaid true k v l w
laid_take k l v w r b e g = subst (GivesUpLaid true k v l) (sym g) (laid_one true k l v (I.Take r []) (ap (λ (x : Known). x.next) e) (bare_accounted k l r b e) (trees_set k.held l.held r (ap (λ (x : Known). x.held) e))
    (λ to f s. let there = bare_there (slice_get k.held r) b in inl (record {
      register = r;
      type = there.0;
      constructor = there.1;
      held = held_get k.held r (H.Bare there.0 there.1) there.2;
      written = s;
      known = e;
    })))

pub laid_drop : (k l : Known) (v w : Written) (r : ℕ) → is_owned (slice_get k.held r) ≡ true → l ≡ using k (used k.held r) → w ≡ added v (I.Drop r) → GivesUpLaid false k v l w
laid_drop k l v w r b e g = subst (GivesUpLaid false k v l) (sym g) (laid_one false k l v (I.Drop r) (ap (λ (x : Known). x.next) e) (used_accounted k l r e) (trees_used k.held l.held r (ap (λ (x : Known). x.held) e))
    (λ to f s. inr (refl, inl (record { register = r; tree = owned_tree k.held r ∙ b; written = s; known = e }))))

pub laid_free : (k l : Known) (v w : Written) (n r : ℕ) → Takes k n r l → w ≡ added v (I.Free r) → GivesUpLaid false k v l w
laid_free k l v w n r t g = subst (GivesUpLaid false k v l) (sym g) (laid_one false k l v (I.Free r) (ap (λ (x : Known). x.next) t.known) (taken_accounted k l n r t) (trees_set k.held l.held r (ap (λ (x : Known). x.held) t.known))
    (λ to f s. inr (refl, inr (record { register = r; size = n; rest = t.rest; taken = t.taken; written = s; known = t.known }))))

-- constructors that were matched are given up in fip and in fbip

any_up : (fip : Bool) (f : PlainFunction) (n a b : ℕ) (k l : Known) → GivesUp true f n a k b l → GivesUp fip f n a k b l
any_up fip f zero a b k l g = g
any_up fip f (suc n) a b k l g = (g.0, one g.1, any_up fip f n (suc a) b g.0 l g.2)
  where
    one : GivesOne true f a k g.0 → GivesOne fip f a k g.0
    one (inl x) = inl x
    one (inr x) = absurd (true≢false x.0)

any_laid : (fip : Bool) (k : Known) (v : Written) (l : Known) (w : Written) → GivesUpLaid true k v l w → GivesUpLaid fip k v l w
any_laid fip k v l w a = record {
  extends = a.extends;
  maps = a.maps;
  next = a.next;
  accounts = a.accounts;
  trees = a.trees;
  by = λ to f h. let x = a.by to f h in (x.0, any_up fip f x.0 (size v) (size w) k l x.1);
}

pub laid_fbip : (b : Bool) (k : Known) (v : Written) (l : Known) (w : Written) → b ≡ true → GivesUpLaid false k v l w → GivesUpLaid (not b) k v l w
laid_fbip true k v l w e a = a
laid_fbip false k v l w e a = absurd (true≢false (sym e))

-- of some registers, one after another

bare_or : (o : Option Held) → ((t c : ℕ) → o ≡ Some (H.Bare t c) → ⊥) → is_bare o ≡ false
bare_or None h = refl
bare_or (Some H.Nothing) h = refl
bare_or (Some (H.Scalar t)) h = refl
bare_or (Some (H.Owned t b)) h = refl
bare_or (Some (H.Lent t root)) h = refl
bare_or (Some (H.Credit n)) h = refl
bare_or (Some (H.Bare t c)) h = absurd (h t c refl)

still_none : (hs ks : List Held) (r : ℕ) → Barer hs ks → is_bare (slice_get hs r) ≡ false → is_bare (slice_get ks r) ≡ false
still_none hs ks r b e = bare_or (slice_get ks r) (λ t c f. true≢false (sym (ap is_bare (b r t c f)) ∙ e))

pub bares_next : (k l : Known) (n m : ℕ) → m ≡ suc n → Loses k l → is_bare (slice_get l.held n) ≡ false → NoBares n k.held → NoBares m l.held
bares_next k l n m e f g h = λ r lt. elim (cases_eq r n) [
  | inl same ↦ subst (λ z. is_bare (slice_get l.held z) ≡ false) (sym same) g
  | inr ne ↦ still_none k.held l.held r f.barer (h r (omega (arith, e, lt, ne)))
]

pub bares_start : (hs : List Held) → NoBares 0 hs
bares_start hs = λ r lt. absurd (omega (arith, lt))

pub trees_start : (hs : List Held) → NoTrees 0 hs
trees_start hs = λ r lt. absurd (omega (arith, lt))

-- credits that are spent

pub spends_one : (k l : Known) (n r : ℕ) → Takes k n r l → SpendsPast n (sized n k.credits - 1) k l
spends_one k l n r t = record { past = λ a. omega (arith, taken_less k l n r t); others = λ m. taken_others k l n r m t }

pub spends_none : (k l : Known) (n : ℕ) → NoneBetween 0 (Rattle.std.specs.Prelude.length k.credits) k.held k.credits n → l ≡ k → SpendsPast n (sized n k.credits - 1) k l
spends_none k l n none e = record {
  past = λ a. let z = none_sized k n a none in let s : sized n l.credits ≡ sized n k.credits = ap (λ (x : Known). sized n x.credits) e in omega (arith, z, s);
  others = λ m. let s : sized m l.credits ≡ sized m k.credits = ap (λ (x : Known). sized m x.credits) e in omega (arith, s);
}

pub spends_start : (k : Known) (n kept i : ℕ) → i ≡ kept → SpendsPast n (sized n k.credits - (i - kept)) k k
spends_start k n kept i e = record { past = λ a. omega (arith, e); others = λ m. omega arith }

pub spends_next : (k l m : Known) (v w : Written) (n kept i j : ℕ) → j ≡ suc i → kept ≤ i → (Accounted k → Accounted l) → SpendsPast n (sized n k.credits - (i - kept)) k l → SpendsPast n (sized n l.credits - 1) l m → SpendsPast n (sized n k.credits - (j - kept)) k m
spends_next k l m v w n kept i j e le accounts a b = record {
  past = λ x. let p = a.past x in let q = b.past (accounts x) in omega (arith, p, q, e, le);
  others = λ z. let p = a.others z in let q = b.others z in omega (arith, p, q);
}

pub spends_done : (k l : Known) (n kept i : ℕ) → sized n k.credits ≤ i → SpendsPast n (sized n k.credits - (i - kept)) k l → SpendsPast n kept k l
spends_done k l n kept i le a = record { past = λ x. let p = a.past x in omega (arith, p, le); others = a.others }

-- all sizes, one after another
pub record SpendsUp (n : ℕ) (k l : Known) : Type 0 where
  pub by : Accounted k → (m : ℕ) → 1 ≤ m → m ≤ n → sized m l.credits ≡ 0

pub up_start : (k l : Known) → SpendsUp 0 k l
up_start k l = record { by = λ a m low high. absurd (omega (arith, low, high)) }

pub up_next : (k l m : Known) (n p q : ℕ) → p ≡ suc n → q ≡ suc n → (Accounted k → Accounted l) → SpendsUp n k l → SpendsPast p 0 l m → SpendsUp q k m
up_next k l m n p q e f accounts a b = record {
  by = λ x z low high. elim (cases_eq z p) [
    | inl same ↦ let y = b.past (accounts x) in subst (λ u. sized u m.credits ≡ 0) (sym same) (omega (arith, y))
    | inr ne ↦ let y = a.by x z low (omega (arith, high, e, f, ne)) in let o = b.others z in omega (arith, y, o)
  ];
}

pub up_done : (k l : Known) (n : ℕ) → MOST_FIELDS ≤ n → SpendsUp n k l → SpendsAll k l
up_done k l n le a = record { by = λ x m low high. a.by x m low (omega (arith, le, high)) }

-- all that has to be given up is

pub nothing_bare : (k : Known) → Accounted k → NoBares k.next k.held → (r t c : ℕ) → holding_at k.held r ≡ H.Bare t c → ⊥
nothing_bare k a none r t c e = by (split r k.next)
  where
    there : slice_get k.held r ≡ Some (H.Bare t c)
    there = get_held k.held r (H.Bare t c) e (λ x. absurd (cc))

    split : (r n : ℕ) → (Rattle.std.specs.Prelude.◌⊎◌ (r < n) (n ≤ r))
    split r zero = inr (omega arith)
    split zero (suc n) = inl (omega arith)
    split (suc r) (suc n) = elim (split r n) [ inl x ↦ inl (omega (arith, x)) | inr x ↦ inr (omega (arith, x)) ]

    by : (Rattle.std.specs.Prelude.◌⊎◌ (r < k.next) (k.next ≤ r)) → ⊥
    by (inl lt) = true≢false (sym (ap is_bare there) ∙ none r lt)
    by (inr le) = not_nothing (a.fresh r (H.Bare t c) le there)
      where
        not_nothing : H.Bare t c ≡ H.Nothing → ⊥
        not_nothing x = absurd (cc)

pub gone_fip : (b : Bool) (k : Known) → not b ≡ true → AllGone (not b) k k
gone_fip true k e = absurd (true≢false (sym e))
gone_fip false k e = record { by = λ a none. record { bares = nothing_bare k a none; trees = λ x. absurd (true≢false x); credits = λ x. absurd (true≢false x) } }

tree_gone : (k : Known) → Accounted k → NoTrees k.next k.held → (r : ℕ) → is_tree (holding_at k.held r) ≡ false
tree_gone k a none r = owned_tree k.held r ∙ by (split r k.next)
  where
    split : (r n : ℕ) → (Rattle.std.specs.Prelude.◌⊎◌ (r < n) (n ≤ r))
    split r zero = inr (omega arith)
    split zero (suc n) = inl (omega arith)
    split (suc r) (suc n) = elim (split r n) [ inl x ↦ inl (omega (arith, x)) | inr x ↦ inr (omega (arith, x)) ]

    or_none : (o : Option Held) → ((h : Held) → o ≡ Some h → h ≡ H.Nothing) → is_owned o ≡ false
    or_none None h = refl
    or_none (Some g) h = ap (λ x. is_owned (Some x)) (h g refl)

    by : (Rattle.std.specs.Prelude.◌⊎◌ (r < k.next) (k.next ≤ r)) → is_owned (slice_get k.held r) ≡ false
    by (inl lt) = none r lt
    by (inr le) = or_none (slice_get k.held r) (λ h e. a.fresh r h le e)

pub gone_fbip : (b : Bool) (k m l : Known) (v w z : Written) → b ≡ true → GivesUpLaid false k v m w → Loses k m → NoTrees k.next m.held → GivesUpLaid false m w l z → Loses m l → SpendsAll m l → AllGone (not b) k l
gone_fbip false k m l v w z e x f none y g s = absurd (true≢false (sym e))
gone_fbip true k m l v w z e x f none y g s = record {
  by = λ a bares.
      let am : Accounted m = x.accounts a in
      let al : Accounted l = y.accounts am in
      let bl : NoBares l.next l.held = λ r lt. still_none m.held l.held r g.barer (still_none k.held m.held r f.barer (bares r (let p = x.next in let q = y.next in omega (arith, lt, p, q)))) in
      let tl : NoTrees l.next l.held = λ r lt. y.trees r (none r (let p = x.next in let q = y.next in omega (arith, lt, p, q))) in
      record {
        bares = nothing_bare l al bl;
        trees = λ q. tree_gone l al tl;
        credits = λ q r n h. no_credits l al (s.by am) r n (get_held l.held r (H.Credit n) h (λ i. absurd (cc)));
      };
}

pub ruleset spending = (bares_start, trees_start, spends_one, spends_none, spends_start, spends_done, up_start, up_done, gone_fip, gone_fbip, laid_same, laid_on, laid_take, laid_drop, laid_free, laid_fbip)

-- registers that are taken into use, one after another

pub room_then : (k l m : Known) → registers l ≡ registers k → HasRoom k l → HasRoom l m → HasRoom k m
room_then k l m n a b = omega (arith, n, a, b)

room_after : (k l m : Known) → l.next ≡ k.next → registers l ≡ registers k → HasRoom l m → HasRoom k m
room_after k l m e n a = room_then k l m n (room_same k l e) a

-- the end of a function

pub gives_laid_return : (fip : Bool) (k k1 k2 l : Known) (v w1 w2 w : Written) (rs : List ℕ) → k1 ≡ using k (used_all k.held rs) → GivesUpLaid true k1 v k2 w1 → NoBares k1.next k2.held → GivesUpLaid fip k2 w1 l w2 → AllGone fip k2 l → w ≡ added w2 (I.Ret rs) → GivesLaid fip k v rs Return l w
gives_laid_return fip k k1 k2 l v w1 w2 w rs e a bares b gone f = subst (GivesLaid fip k v rs Return l) (sym f) (record {
  maps = both.maps;
  room = room_same k l (both.next ∙ ap (λ (x : Known). x.next) e);
  by = λ ac to g h.
      let up = both.by to g (front (size v) w2 (added w2 (I.Ret rs)) to g.instrs (added_extends w2 (I.Ret rs)) h) in
      let second : Accounted k2 = a.accounts (subst Accounted (sym e) (used_all_accounted k rs ac)) in
      record {
        steps = up.0;
        stop = size w2;
        left = l;
        gives = subst (λ x. GivesUp fip g up.0 (size v) x (size w2) l) e up.1;
        done = gone.by second (λ r lt. bares r (let n = a.next in omega (arith, lt, n)));
        written = stands w2 (I.Ret rs) (size v) to g.instrs both.extends.grows h;
        one = one_longer w2 (I.Ret rs);
      };
  into = tt;
})
  where
    both : GivesUpLaid fip k1 v l w2
    both = laid_on fip k1 v k2 w1 l w2 (any_laid fip k1 v k2 w1 a) b

pub gives_laid_into : (fip : Bool) (k l : Known) (v w : Written) (rs ds : List ℕ) → Moves k v rs ds l w → GivesLaid fip k v rs (Into ds) l w
gives_laid_into fip k l v w rs ds m = record { maps = m.maps; room = room_same k l m.hands.next; by = λ a to f h. m.code to f.instrs h; into = m.hands }

pub ends_laid_tail : (s : Setting) (fip : Bool) (k k2 l : Known) (v w1 w2 w : Written) (f : ℕ) (rs results : List ℕ) → GivesUpLaid true k v k2 w1 → NoBares k.next k2.held → GivesUpLaid fip k2 w1 l w2 → AllGone fip k2 l → w ≡ added w2 (I.Tail f rs) → EndsLaid s fip k v f rs results Return l w
ends_laid_tail s fip k k2 l v w1 w2 w f rs results a bares b gone e = subst (EndsLaid s fip k v f rs results Return l) (sym e) (record {
  maps = both.maps;
  room = room_same k l both.next;
  by = λ ac to g h.
      let up = both.by to g (front (size v) w2 (added w2 (I.Tail f rs)) to g.instrs (added_extends w2 (I.Tail f rs)) h) in
      record {
        steps = up.0;
        stop = size w2;
        left = l;
        gives = up.1;
        done = gone.by (a.accounts ac) (λ r lt. bares r (let n = a.next in omega (arith, lt, n)));
        written = stands w2 (I.Tail f rs) (size v) to g.instrs both.extends.grows h;
        one = one_longer w2 (I.Tail f rs);
      };
  into = tt;
})
  where
    both : GivesUpLaid fip k v l w2
    both = laid_on fip k v k2 w1 l w2 (any_laid fip k v k2 w1 a) b

pub ends_laid_call : (s : Setting) (fip : Bool) (k l : Known) (v w : Written) (f : ℕ) (rs results ds : List ℕ) → w ≡ added v (I.Call f rs ds) → l ≡ using k (received s k.held results ds) → EndsLaid s fip k v f rs results (Into ds) l w
ends_laid_call s fip k l v w f rs results ds e g = subst (EndsLaid s fip k v f rs results (Into ds) l) (sym e) (record {
  maps = refl;
  room = room_same k l (ap (λ (x : Known). x.next) g);
  by = λ a to x h. record {
    written = stands v (I.Call f rs ds) (size v) to x.instrs (omega arith) h;
    one = one_longer v (I.Call f rs ds);
    known = g;
  };
  into = (g, one_longer v (I.Call f rs ds));
})

-- operators and calls

accounted_at : (target : Target) (k : Known) (t d : ℕ) (l : Known) → GoesTo target k (H.Scalar t) d l → AccountedAt target k → AccountedAt target l
accounted_at Return k t d l g a = subst Accounted (sym g.1) (next_accounted k (H.Scalar t) (λ n. refl) a)
accounted_at (Into ds) k t d l g a = tt

-- the registers of results of an operator
operated : (target : Target) (k h l : Known) (v u w : Written) (t d : ℕ) → GoesTo target k (H.Scalar t) d h → HasRoom k h → size u ≡ suc (size v) → size u ≤ size w → IntoAt target (λ ds. HandsOn h u (d ∷ []) ds l w) → IntoAt target (λ ds. ResultsIn k v ds l w)
operated Return k h l v u w t d g room e le x = tt
operated (Into []) k h l v u w t d g room e le x = record {
  names = x.names ∙ ap (λ (y : Known). y.names) g.1;
  grows = let n = x.next in let m = ap (λ (y : Known). y.next) g.1 in omega (arith, n, m);
  room = let n = x.next in omega (arith, n, room);
  accounts = λ a s. (
    x.accounts (subst Accounted (sym g.1) (next_accounted k (H.Scalar t) (λ n. refl) a)) tt,
    subst (LastGone k.credits) (sym (x.credits ∙ ap (λ (y : Known). y.credits) g.1)) (last_same k.credits),
  );
  longer = omega (arith, e, le);
}
operated (Into (q ∷ ds)) k h l v u w t d g room e le x = record {
  names = x.names ∙ ap (λ (y : Known). y.names) g.1;
  grows = let n = x.next in let m = ap (λ (y : Known). y.next) g.1 in omega (arith, n, m);
  room = let n = x.next in omega (arith, n, room);
  accounts = λ a s.
      let lt : q < h.next = (let m = ap (λ (y : Known). y.next) g.1 in let z = s.0 in omega (arith, m, z)) in
      let free : is_credit (slice_get h.held q) ≡ false = subst (λ (y : Known). is_credit (slice_get y.held q) ≡ false) (sym g.1) (set_itself k.held q (H.Scalar t) refl) in (
        x.accounts (subst Accounted (sym g.1) (put_accounted k q k.next (H.Scalar t) (omega arith) s.0 (λ m. not_of m (slice_get k.held q) s.1) (λ m. refl) a))
            (omega (arith, lt, g.0), subst (λ z. is_credit (slice_get h.held z) ≡ false) (sym g.0) free, lt, free, tt),
        subst (LastGone k.credits) (sym (x.credits ∙ ap (λ (y : Known). y.credits) g.1)) (last_same k.credits),
      );
  longer = omega (arith, e, le);
}

pub operates_laid : (fip : Bool) (k h l : Known) (v u w : Written) (o : Operator) (p : Place) (x y d : ℕ) (target : Target) → GoesTo target k (H.Scalar (result_type o)) d h → HasRoom k h → u ≡ added v (I.Arith d o x y p.line p.col) → Extends u w → GivesLaid fip h u (d ∷ []) target l w → OperatesLaid fip k v o p x y target l w
operates_laid fip k h l v u w o p x y d target g room e ex b = on (subst (λ z. Extends z w) e ex) (subst (λ z. GivesLaid fip h z (d ∷ []) target l w) e b)
  where
    i : Instr
    i = I.Arith d o x y p.line p.col

    on : Extends (added v i) w → GivesLaid fip h (added v i) (d ∷ []) target l w → OperatesLaid fip k v o p x y target l w
    on later c = record {
      maps = c.maps;
      room = room_then k h l (goes_length target k (H.Scalar (result_type o)) d h g) room c.room;
      by = λ a to f s. (
        record {
          destination = d;
          holds = h;
          written = stands v i (size v) to f.instrs (omega arith) (front (size v) (added v i) w to f.instrs later s);
          goes = g;
          given = subst (λ n. GivenLaid fip f n h (d ∷ []) target (size w) l) (one_longer v i)
              (c.by (accounted_at target k (result_type o) d h g a) to f (back (size v) (size (added v i)) w to f.instrs (added_extends v i).grows s));
        },
        room,
      );
      into = operated target k h l v (added v i) w (result_type o) d g room (one_longer v i) later.grows c.into;
    }

pub at_end : (target : Target) (m : Known) → Accounted m → AccountedAt target m
at_end Return m x = x
at_end (Into ds) m x = tt

-- the registers of results of a call
called : (s : Setting) (target : Target) (k m1 m l : Known) (v w : Written) (d : Instance) (rs qs : List ℕ) → m1 ≡ using k (handed k.held d.params rs) → TakesAll m1 d.credits rs qs m → IntoAt target (λ ds. (l ≡ using m (received s m.held d.results ds)) × (size w ≡ suc (size v))) → IntoAt target (λ ds. ResultsIn k v ds l w)
called s Return k m1 m l v w d rs qs e t x = tt
called s (Into ds) k m1 m l v w d rs qs e t x = record {
  names = ap (λ (y : Known). y.names) x.0 ∙ t.names ∙ ap (λ (y : Known). y.names) e;
  grows = omega (arith, same);
  room = omega (arith, same);
  accounts = λ a solid.
      let am1 : Accounted m1 = subst Accounted (sym e) (handed_accounted k d.params rs a) in
      let one : LastGone k.credits m1.credits = subst (λ (y : Known). LastGone k.credits y.credits) (sym e) (last_same k.credits) in
      let two = t.kept am1 in
      let gone : LastGone k.credits m.credits = last_on k.credits m1.credits m.credits one two.1 in (
        subst Accounted (sym x.0) (received_accounted s m d.results ds two.0 (all_solid_on k m ds (let n = t.next in let o = ap (λ (y : Known). y.next) e in omega (arith, n, o)) (λ r. no_new_credit k m r a two.0 gone) solid)),
        subst (λ (y : Known). LastGone k.credits y.credits) (sym x.0) gone,
      );
  longer = let z = x.1 in omega (arith, z);
}
  where
    same : l.next ≡ k.next
    same = ap (λ (y : Known). y.next) x.0 ∙ t.next ∙ ap (λ (y : Known). y.next) e

pub calls_laid : (s : Setting) (fip : Bool) (k m1 m l : Known) (v w : Written) (g f : ℕ) (d : Instance) (rs qs : List ℕ) (target : Target) → joined (slice_get s.functions g) ≡ Some f → slice_get s.instances g ≡ Some d → m1 ≡ using k (handed k.held d.params rs) → TakesAll m1 d.credits rs qs m → EndsLaid s fip m v f qs d.results target l w → CallsLaid s fip k v g rs target l w
calls_laid s fip k m1 m l v w g f d rs qs target a b e t c = record {
  maps = c.maps;
  room = room_after k m l (t.next ∙ ap (λ (y : Known). y.next) e) (taken_length m1 d.credits t.credits m t.taken ∙ ap registers e ∙ handed_length k.held d.params rs) c.room;
  by = λ ac to x h.
      let handed_over : Accounted m1 = subst Accounted (sym e) (handed_accounted k d.params rs ac) in
      let kept = t.kept handed_over in
      record {
        function = f;
        instance = d;
        credits = t.credits;
        m = m;
        numbered = a;
        there = b;
        taken = subst (λ y. AreTaken y d.credits t.credits m) e t.taken;
        last = subst (λ (y : Known). LastGone y.credits m.credits) e kept.1;
        ends = subst (λ y. EndsCallLaid s fip x (size v) m f y d.results target (size w) l) t.following (c.by (at_end target m kept.0) to x h);
      };
  into = called s target k m1 m l v w d rs qs e t c.into;
}

pub ruleset ending = (gives_laid_into)
