-- The position that a pattern asks for is read, and those above it: each read is as required.
use Rattle.std.proofs.Common.{◌≡◌, ◌⊎◌, inl, inr, ℕ, zero, suc, ◌+◌, ◌<◌, ◌≤◌, Bool, true, false, List, [], ◌∷◌, ◌++◌, length, slice_get, Option, Some, None, refl, sym, ap, ◌∙◌, subst, true≢false, arith, if◌then◌else◌, ◌==◌}
use Rattle.std.proofs.lemmas.Option.{same_Some}
use Rattle.separation.specs.fip_language.Table.{Table}
use Rattle.separation.specs.fip_language.Every.{Among}
use Rattle.separation.specs.cell_code.declared.code.Instr.TheVariants as I
use Rattle.separation.specs.cell_code.declared.kind.From.{From}
use Rattle.separation.specs.cell_code.declared.kind.Kind.{Kind}
use Rattle.separation.specs.cell_code.declared.kind.Kind.TheVariants as K
use Rattle.separation.specs.cell_code.Plain.{PlainFunction, PlainCode}
use Rattle.separation.specs.code_rules.Types.{all, fields, is_scalar_type, lent_kind}
use Rattle.separation.specs.code_rules.Kinds.{from_of, root_of}
use Rattle.separation.specs.code_rules.Changes.{forget}
use Rattle.separation.specs.code_rules.Asked.{only_fields, known_fields}
use Rattle.separation.proofs.separation_kinds.Basics.{pick, chosen, refused, apart, or_not, equal, itself, unequal_is}
use Rattle.separation.proofs.separation_kinds.KindLemmas.{dropped, is_one}
use Rattle.lowering_relation.specs.match_knowledge.declared.heads.Head.TheVariants.{Number, Tag}
use Rattle.lowering_relation.specs.match_knowledge.declared.verdicts.Verdict.TheVariants.{Asks}
use Rattle.lowering_relation.specs.match_knowledge.ValueHeads.{IsHead, same_head}
use Rattle.lowering_relation.specs.match_knowledge.Patterns as M
use Rattle.lowering_relation.specs.match_knowledge.Patterns.{IsPattern, ArePatterns}
use Rattle.lowering_relation.specs.match_knowledge.Known.{Known, Open, Is, Knowns, NoKnowns, MoreKnowns, compare, compare_all, is_asks}
use Rattle.lowering_relation.proofs.match_knowledge.Facts.{same_is}
use Rattle.lowering_relation.proofs.match_knowledge.Split.{asks_is, both_asks, is_asking}
use Rattle.lowering_relation.specs.Spots.{Spot, At, Spots, NoSpots, MoreSpots, register, below, all_in, Differ, AllDiffer}
use Rattle.lowering_relation.specs.Reading.{contains}
use Rattle.lowering_relation.proofs.MatchLists.{in_head, in_tail, in_part}
use Rattle.lowering_relation.specs.Labels.{Quiet}
use Rattle.lowering_relation.specs.Sights.{left, part_kind, Unread, Fresh, Below, AllBelow}
use Rattle.lowering_relation.specs.Tests.{ReadOne, ReadsLaid, ReadsFirst}
use Rattle.lowering_relation.proofs.Growing.{one_end, reads_end}
use Rattle.lowering_soundness.proofs.Arguments.{with_field}
use Rattle.lowering_soundness.proofs.Parts.{one_row}
use Rattle.lowering_soundness.proofs.Branches.{Came, came_none, came_one, came_on, came_quiet}
use Rattle.lowering_soundness.proofs.Lefts.{left_tag, head_fields}
use Rattle.lowering_soundness.proofs.Looking.{peeked, peek_row}
use Rattle.lowering_soundness.proofs.Positions.{OnePart, contains_new, contains_other, unread_on, part_on, all_below_on, fresh_left, fresh_below, Froms, forget_same, unnamed}

-- ---- what asks

pub asks_field : (w : Table) (ts : List ℕ) (ps : M.Patterns) (ks : Knowns) → ArePatterns w ts ps → compare_all ps ks ≡ Asks → (n : ℕ) × (length ts ≡ suc n)
asks_field w ts M.NoPatterns ks h e = absurd (cc)
asks_field w [] (M.MorePatterns p ps) ks h e = absurd h
asks_field w (t ∷ ts) (M.MorePatterns p ps) ks h e = (length ts, refl)

pub no_number : (w : Table) (t : ℕ) (i : Rattle.std.proofs.Common.ℤ) (fs : List ℕ) (ps : M.Patterns) (ks : Knowns) → IsHead w t (Number i) fs → ArePatterns w fs ps → compare_all ps ks ≡ Asks → ⊥
no_number w zero i fs ps ks h a e =
    let z = asks_field w fs ps ks a e in
    let y = ap length h.1 in
    let n = z.1 in
    absurd (let x : ⊥ = omega (arith, n, y) in x)
no_number w (suc t) i fs ps ks h a e = absurd h

-- the positions that a pattern asks for were read
abbrev mutual
  pub Ready : M.Pattern → Known → Spot → List ℕ → Type 0
  Ready M.Any k s read = Unit {0}
  Ready (M.Test t h ps) (Open out) s read = Unit {0}
  Ready (M.Test t h ps) (Is g ks) (At r fs) read = ReadyFirst ps ks fs read

  pub ReadyFirst : M.Patterns → Knowns → Spots → List ℕ → Type 0
  ReadyFirst M.NoPatterns ks ss read = Unit {0}
  ReadyFirst (M.MorePatterns p ps) NoKnowns ss read = Unit {0}
  ReadyFirst (M.MorePatterns p ps) (MoreKnowns k ks) NoSpots read = Unit {0}
  ReadyFirst (M.MorePatterns p ps) (MoreKnowns k ks) (MoreSpots s ss) read =
      ((is_asks (compare p k) ≡ true) × (contains (register s) read ≡ true) × Ready p k s read)
      ⊎ ((is_asks (compare p k) ≡ false) × ReadyFirst ps ks ss read)

-- the register of a position: what is known of its fields, and its root
abbrev pub OwnKind : Table → Option ℕ → ℕ → Known → ℕ → Kind → Type 0
OwnKind w root t k r own =
    (is_scalar_type w t ≡ true) ⊎ ((known_fields w own ≡ only_fields w t (left w t k)) × (root_of r own ≡ root))

pub own_part : (w : Table) (root : Option ℕ) (t : ℕ) (k : Known) (d r i : ℕ) → OwnKind w root t k d (part_kind w root t k r i)
own_part w root t k d r i = elim (or_not (is_scalar_type w t)) as (λ v. OwnKind w root t k d (part_kind w root t k r i)) [
  | inl e ↦ inl e
  | inr e ↦ (let same = refused (is_scalar_type w t) (K.Scalar t) (K.Lent t (left w t k) root (Some (record { register = r; field = i }))) e in inr (ap (known_fields w) same, ap (root_of d) same))
]

-- it was read, or it is the scrutinee's
abbrev pub Seen : ℕ → List ℕ → ℕ → Type 0
Seen r0 read r = (r ≡ r0) ⊎ (contains r read ≡ true)

-- a register that may be written, and isn't the scrutinee's
abbrev pub MayRead : ℕ → ℕ → ℕ → Type 0
MayRead n r0 z = (z < n) × (z ≡ r0 → ⊥)

pub apart_head : (s : Spot) (ss : Spots) (q : ℕ) → AllDiffer (MoreSpots s ss) → Among q (all_in ss) → Among q (register s ∷ below s) → ⊥
apart_head s ss q d a (inl e) = d.1 (subst (λ z. Among z (all_in ss)) e a)
apart_head s ss q d a (inr b) = d.2 q b a

module _ (c : PlainCode) (f : PlainFunction) (r0 : ℕ) where
  -- ---- one read

  pub record One (root : Option ℕ) (t : ℕ) (k : Known) (s : Spot) (r i at : ℕ) (read : List ℕ) (m : ℕ → Kind) (mid : ℕ) (more : List ℕ) : Type 0 where
    pub following : ℕ → Kind
    pub came : Came c f at m mid following
    pub seen : contains (register s) more ≡ true
    pub kind : following (register s) ≡ part_kind c.types root t k r i
    pub parts : Below c.types root t k s more following
    pub others : (q : ℕ) → (q ≡ register s → ⊥) → (contains q more ≡ contains q read) × (following q ≡ m q)
    pub froms : Froms r0 more following

  one_there : (root : Option ℕ) (t : ℕ) (k : Known) (s : Spot) (r i at : ℕ) (read : List ℕ) (m : ℕ → Kind) (mid : ℕ) (more : List ℕ) → mid ≡ at → more ≡ read → contains (register s) read ≡ true → m (register s) ≡ part_kind c.types root t k r i → Below c.types root t k s read m → Froms r0 read m → One root t k s r i at read m mid more
  one_there root t k s r i at read m mid more e d seen kind parts froms = record {
    following = m;
    came = subst (λ b. Came c f at m b m) (sym e) (came_none c f at m);
    seen = ap (contains (register s)) d ∙ seen;
    kind = kind;
    parts = subst (λ rs. Below c.types root t k s rs m) (sym d) parts;
    others = λ q ne. (ap (contains q) d, refl);
    froms = subst (λ rs. Froms r0 rs m) (sym d) froms;
  }

  -- the kind of a word that was read
  read_kind : (b : Bool) (t : ℕ) (cs : List ℕ) (root : Option ℕ) (r i d : ℕ) → (r == d) ≡ false → forget (is_one d) (if b then K.Scalar t else K.Lent t cs root (Some (record { register = r; field = i }))) ≡ (if b then K.Scalar t else K.Lent t cs root (Some (record { register = r; field = i })))
  read_kind true t cs root r i d ne = refl
  read_kind false t cs root r i d ne = ap (K.Lent t cs root) (refused (r == d) None (Some (record { register = r; field = i })) ne)

  from_kind : (b : Bool) (t : ℕ) (cs : List ℕ) (root : Option ℕ) (r i : ℕ) (g : From) → from_of (if b then K.Scalar t else K.Lent t cs root (Some (record { register = r; field = i }))) ≡ Some g → g.register ≡ r
  from_kind true t cs root r i g e = absurd (cc)
  from_kind false t cs root r i g e = ap (λ (x : From). x.register) (sym (same_Some (record { register = r; field = i }) g e))

  one_new : (root : Option ℕ) (t : ℕ) (k : Known) (s : Spot) (r i at : ℕ) (read : List ℕ) (m : ℕ → Kind) (mid : ℕ) (more : List ℕ) (end : ℕ) → slice_get (known_fields c.types (m r)) i ≡ Some t → root_of r (m r) ≡ root → Seen r0 read r → (register s ≡ r → ⊥) → MayRead f.registers r0 (register s) → (Among (register s) (below s) → ⊥) → contains (register s) read ≡ false → m (register s) ≡ K.Gone → Unread (below s) read m → Fresh c.types t k → slice_get f.instrs at ≡ Some (I.Peek (register s) r i) → mid ≡ suc at → more ≡ read ++ register s ∷ [] → Froms r0 read m → Quiet f at end m → mid ≤ end → One root t k s r i at read m mid more
  one_new root t k s r i at read m mid more end there roots known other low apart' none gone unread fresh is one seen froms quiet le =
      subst (λ b. One root t k s r i at read m b more) (sym one) (subst (One root t k s r i at read m (suc at)) (sym seen) (record {
        following = following;
        came = came_one c f at m following (one_row c f at m following (I.Peek d r i) is refl (peek_row c f m d r i t there gone (unequal_is d r other) low.0) (quiet.first (omega (arith, le, one))));
        seen = contains_new d read;
        kind = kind;
        parts = fresh_below c.types root t k s (read ++ d ∷ []) following fresh (unread_on (below s) read (read ++ d ∷ []) m following unread (λ z a. others z (λ e. apart' (subst (λ q. Among q (below s)) e a))));
        others = others;
        froms = record { each = from };
      }))
    where
      d : ℕ
      d = register s

      new : Kind
      new = lent_kind c.types t (root_of r (m r)) r i

      following : ℕ → Kind
      following = peeked m (register s) (lent_kind c.types t (root_of r (m r)) r i)

      off : (r == register s) ≡ false
      off = unequal_is r (register s) (λ e. other (sym e))

      forgot : forget (is_one (register s)) (lent_kind c.types t (root_of r (m r)) r i) ≡ lent_kind c.types t (root_of r (m r)) r i
      forgot = read_kind (is_scalar_type c.types t) t (all c.types t) (root_of r (m r)) r i (register s) off

      here : peeked m (register s) (lent_kind c.types t (root_of r (m r)) r i) (register s) ≡ lent_kind c.types t (root_of r (m r)) r i
      here = chosen (register s == register s) (forget (is_one (register s)) new) (dropped (is_one (register s)) m (register s)) (itself (register s)) ∙ forgot

      kind : peeked m (register s) (lent_kind c.types t (root_of r (m r)) r i) (register s) ≡ part_kind c.types root t k r i
      kind = here ∙ (ap (λ o. lent_kind c.types t o r i) roots ∙ ap (λ cs. if is_scalar_type c.types t then K.Scalar t else K.Lent t cs root (Some (record { register = r; field = i }))) (sym (fresh_left c.types t k fresh)))

      others : (q : ℕ) → (q ≡ register s → ⊥) → (contains q (read ++ register s ∷ []) ≡ contains q read) × (peeked m (register s) (lent_kind c.types t (root_of r (m r)) r i) q ≡ m q)
      others q ne =
          let no = unequal_is q (register s) ne in (
            contains_other q (register s) read ne,
            refused (q == register s) (forget (is_one (register s)) new) (dropped (is_one (register s)) m q) no
                ∙ (refused (q == register s) K.Gone (forget (is_one (register s)) (m q)) no
                ∙ forget_same (is_one (register s)) (m q) (λ g e. unnamed r0 (register s) read m q g froms none low.1 e)),
          )

      more_seen : (z : ℕ) → Seen r0 read z → Seen r0 (read ++ register s ∷ []) z
      more_seen z (inl e) = inl e
      more_seen z (inr e) = elim (or_not (z == register s)) as (λ v. Seen r0 (read ++ register s ∷ []) z) [
        | inl y ↦ absurd (true≢false (sym e ∙ (ap (λ z. contains z read) (equal z (register s) y) ∙ none)))
        | inr y ↦ inr (contains_other z (register s) read (Rattle.separation.proofs.separation_kinds.Basics.unequal z (register s) y) ∙ e)
      ]

      from : (q : ℕ) (g : From) → from_of (peeked m (register s) (lent_kind c.types t (root_of r (m r)) r i) q) ≡ Some g → Seen r0 (read ++ register s ∷ []) g.register
      from q g e = elim (or_not (q == register s)) as (λ v. Seen r0 (read ++ register s ∷ []) g.register) [
        | inl y ↦ subst (Seen r0 (read ++ register s ∷ [])) (sym (from_kind (is_scalar_type c.types t) t (all c.types t) (root_of r (m r)) r i g (sym (ap from_of here) ∙ (ap (λ q. from_of (peeked m (register s) (lent_kind c.types t (root_of r (m r)) r i) q)) (sym (equal q (register s) y)) ∙ e)))) (more_seen r known)
        | inr y ↦ more_seen g.register (froms.each q g (sym (ap from_of (others q (Rattle.separation.proofs.separation_kinds.Basics.unequal q (register s) y)).1) ∙ e))
      ]

  pub read_one : (root : Option ℕ) (t : ℕ) (k : Known) (s : Spot) (r i at : ℕ) (read : List ℕ) (m : ℕ → Kind) (mid : ℕ) (more : List ℕ) (end : ℕ) → slice_get (known_fields c.types (m r)) i ≡ Some t → root_of r (m r) ≡ root → Seen r0 read r → (register s ≡ r → ⊥) → MayRead f.registers r0 (register s) → (Among (register s) (below s) → ⊥) → OnePart c.types root t k s r i read m → ReadOne f at r i (register s) read mid more → Froms r0 read m → Quiet f at end m → mid ≤ end → One root t k s r i at read m mid more
  read_one root t k s r i at read m mid more end there roots known other low off (inl p) (inl h) froms quiet le = one_there root t k s r i at read m mid more h.1 h.2 p.0 p.1 p.2 froms
  read_one root t k s r i at read m mid more end there roots known other low off (inl p) (inr h) froms quiet le = absurd (true≢false (sym p.0 ∙ h.0))
  read_one root t k s r i at read m mid more end there roots known other low off (inr p) (inl h) froms quiet le = absurd (true≢false (sym h.0 ∙ p.0))
  read_one root t k s r i at read m mid more end there roots known other low off (inr p) (inr h) froms quiet le =
      one_new root t k s r i at read m mid more end there roots known other low off p.0 p.1 p.2 p.3 h.1 h.2 h.3 froms quiet le

  -- ---- all reads that a pattern asks for

  pub record Reads (P : List ℕ → Type 0) (Q : List ℕ → (ℕ → Kind) → Type 0) (zs : List ℕ) (at : ℕ) (read : List ℕ) (m : ℕ → Kind) (end : ℕ) (more : List ℕ) : Type 0 where
    pub following : ℕ → Kind
    pub came : Came c f at m end following
    pub ready : P more
    pub parts : Q more following
    pub kept : (q : ℕ) → contains q read ≡ true → contains q more ≡ true
    pub others : (q : ℕ) → (Among q zs → ⊥) → (contains q more ≡ contains q read) × (following q ≡ m q)
    pub froms : Froms r0 more following

  pub reads_none : (P : List ℕ → Type 0) (Q : List ℕ → (ℕ → Kind) → Type 0) (zs : List ℕ) (at : ℕ) (read : List ℕ) (m : ℕ → Kind) (end : ℕ) (more : List ℕ) → end ≡ at → more ≡ read → P read → Q read m → Froms r0 read m → Reads P Q zs at read m end more
  reads_none P Q zs at read m end more e d p q froms = record {
    following = m;
    came = subst (λ b. Came c f at m b m) (sym e) (came_none c f at m);
    ready = subst P (sym d) p;
    parts = subst (λ rs. Q rs m) (sym d) q;
    kept = λ q h. ap (contains q) d ∙ h;
    others = λ q ne. (ap (contains q) d, refl);
    froms = subst (λ rs. Froms r0 rs m) (sym d) froms;
  }

  -- the types of the fields from number i on
  abbrev pub FieldsFrom : List ℕ → List ℕ → ℕ → Type 0
  FieldsFrom all' ts i = (j t : ℕ) → slice_get ts j ≡ Some t → slice_get all' (i + j) ≡ Some t

  pub fields_start : (ts : List ℕ) → FieldsFrom ts ts 0
  fields_start ts j u e = let z : 0 + j ≡ j = omega arith in ap (slice_get ts) z ∙ e

  pub fields_next : (all' : List ℕ) (t : ℕ) (ts : List ℕ) (i : ℕ) → FieldsFrom all' (t ∷ ts) i → FieldsFrom all' ts (suc i)
  fields_next all' t ts i h j u e = let z : i + suc j ≡ suc i + j = omega arith in ap (slice_get all') (sym z) ∙ h (suc j) u e

  pub fields_here : (all' : List ℕ) (t : ℕ) (ts : List ℕ) (i : ℕ) → FieldsFrom all' (t ∷ ts) i → slice_get all' i ≡ Some t
  fields_here all' t ts i h = let z : i + 0 ≡ i = omega arith in ap (slice_get all') (sym z) ∙ h 0 t refl

  pub own_tree : (root : Option ℕ) (t n : ℕ) (ks : Knowns) (r : ℕ) (own : Kind) → n < Rattle.separation.specs.code_rules.Types.count c.types t → is_scalar_type c.types t ≡ false → OwnKind c.types root t (Is (Tag n) ks) r own → (known_fields c.types own ≡ fields c.types t n) × (root_of r own ≡ root)
  own_tree root t n ks r own low tree (inl e) = absurd (true≢false (sym e ∙ tree))
  own_tree root t n ks r own low tree (inr h) = (h.0 ∙ ap (only_fields c.types t) (left_tag c.types t n ks low), h.1)

  joined : (root : Option ℕ) (t : ℕ) (ts : List ℕ) (p : M.Pattern) (ps : M.Patterns) (k : Known) (ks : Knowns) (s : Spot) (ss : Spots) (r i at : ℕ) (read : List ℕ) (m : ℕ → Kind) (mid : ℕ) (more : List ℕ) → ReadyFirst (M.MorePatterns p ps) (MoreKnowns k ks) (MoreSpots s ss) more → (one : ℕ) (seen : List ℕ) → AllDiffer (MoreSpots s ss) → AllBelow c.types root ts ks ss r (suc i) read m → (o : One root t k s r i at read m one seen) → Reads (Ready p k s) (Below c.types root t k s) (below s) one seen o.following mid more → Reads (ReadyFirst (M.MorePatterns p ps) (MoreKnowns k ks) (MoreSpots s ss)) (AllBelow c.types root (t ∷ ts) (MoreKnowns k ks) (MoreSpots s ss) r i) (all_in (MoreSpots s ss)) at read m mid more
  joined root t ts p ps k ks s ss r i at read m mid more ready one seen differ parts o sub = record {
    following = sub.following;
    came = came_on c f at one mid m o.following sub.following o.came sub.came;
    ready = ready;
    parts = (
      inl (sub.kept (register s) o.seen, (sub.others (register s) differ.0).1 ∙ o.kind, sub.parts),
      all_below_on c.types root ts ks ss r (suc i) read more m sub.following parts (λ z a. same z (λ y. apart_head s ss z differ a y)),
    );
    kept = λ q e. sub.kept q (elim (or_not (q == register s)) as (λ v. contains q seen ≡ true) [
      | inl y ↦ ap (λ q. contains q seen) (equal q (register s) y) ∙ o.seen
      | inr y ↦ (o.others q (Rattle.separation.proofs.separation_kinds.Basics.unequal q (register s) y)).0 ∙ e
    ]);
    others = λ q ne. same q (λ y. ne (in_part q s ss y));
    froms = sub.froms;
  }
    where
      same : (q : ℕ) → (Among q (register s ∷ below s) → ⊥) → (contains q more ≡ contains q read) × (sub.following q ≡ m q)
      same q ne =
          let a = o.others q (λ e. ne (inl e)) in
          let b = sub.others q (λ y. ne (inr y)) in
          (b.0 ∙ a.0, b.1 ∙ a.1)

  passed : (root : Option ℕ) (t : ℕ) (ts : List ℕ) (p : M.Pattern) (ps : M.Patterns) (k : Known) (ks : Knowns) (s : Spot) (ss : Spots) (r i at : ℕ) (read : List ℕ) (m : ℕ → Kind) (mid : ℕ) (more : List ℕ) → is_asks (compare p k) ≡ false → AllDiffer (MoreSpots s ss) → OnePart c.types root t k s r i read m → Reads (ReadyFirst ps ks ss) (AllBelow c.types root ts ks ss r (suc i)) (all_in ss) at read m mid more → Reads (ReadyFirst (M.MorePatterns p ps) (MoreKnowns k ks) (MoreSpots s ss)) (AllBelow c.types root (t ∷ ts) (MoreKnowns k ks) (MoreSpots s ss) r i) (all_in (MoreSpots s ss)) at read m mid more
  passed root t ts p ps k ks s ss r i at read m mid more none differ part rest = record {
    following = rest.following;
    came = rest.came;
    ready = inr (none, rest.ready);
    parts = (part_on c.types root t k s r i read more m rest.following part (λ z a. rest.others z (λ y. apart_head s ss z differ y a)), rest.parts);
    kept = rest.kept;
    others = λ q ne. rest.others q (λ a. ne (in_tail q s ss a));
    froms = rest.froms;
  }

  mutual
    pub reads : (root : Option ℕ) (t : ℕ) (p : M.Pattern) (k : Known) (s : Spot) (at : ℕ) (read : List ℕ) (m : ℕ → Kind) (mid : ℕ) (more : List ℕ) (end : ℕ) → IsPattern c.types t p → compare p k ≡ Asks → Differ s → (Among (register s) (below s) → ⊥) → ((z : ℕ) → Among z (below s) → MayRead f.registers r0 z) → OwnKind c.types root t k (register s) (m (register s)) → Seen r0 read (register s) → Below c.types root t k s read m → ReadsLaid f at p k s read mid more → Froms r0 read m → Quiet f at end m → mid ≤ end → Reads (Ready p k s) (Below c.types root t k s) (below s) at read m mid more
    reads root t M.Any k s at read m mid more end typed asks differ off may own known parts h froms quiet le = absurd (cc)
    reads root t (M.Test u hd ps) (Open out) s at read m mid more end typed asks differ off may own known parts h froms quiet le =
        reads_none (Ready (M.Test u hd ps) (Open out) s) (Below c.types root t (Open out) s) (below s) at read m mid more h.0 h.1 tt parts froms
    reads root t (M.Test u hd ps) (Is (Number j) ks) (At r fs) at read m mid more end typed asks differ off may own known parts h froms quiet le =
        let a = asks_is (compare_all ps ks) (same_head hd (Number j)) asks in
        absurd (no_number c.types t j typed.1 ps ks (subst (λ g. IsHead c.types t g typed.1) (same_is hd (Number j) a.0) typed.2) typed.3 a.1)
    reads root t (M.Test u hd ps) (Is (Tag n) ks) (At r fs) at read m mid more end typed asks differ off may own known parts h froms quiet le =
        let a = asks_is (compare_all ps ks) (same_head hd (Tag n)) asks in
        let hf = head_fields c.types t n typed.1 (subst (λ g. IsHead c.types t g typed.1) (same_is hd (Tag n) a.0) typed.2) in
        let are : ArePatterns c.types (fields c.types t n) ps = subst (λ ts. ArePatterns c.types ts ps) (sym hf.1) typed.3 in
        let some = asks_field c.types (fields c.types t n) ps ks are a.1 in
        let tree = own_tree root t n ks r (m r) hf.0 (with_field c.types t n some.0 some.1) own in
        let rest = all_reads root (fields c.types t n) (fields c.types t n) ps ks fs r 0 at read m mid more end are a.1 differ off may (fields_start (fields c.types t n)) tree.0 tree.1 known parts h froms quiet le in
        rest

    pub all_reads : (root : Option ℕ) (all' ts : List ℕ) (ps : M.Patterns) (ks : Knowns) (ss : Spots) (r i at : ℕ) (read : List ℕ) (m : ℕ → Kind) (mid : ℕ) (more : List ℕ) (end : ℕ) → ArePatterns c.types ts ps → compare_all ps ks ≡ Asks → AllDiffer ss → (Among r (all_in ss) → ⊥) → ((z : ℕ) → Among z (all_in ss) → MayRead f.registers r0 z) → FieldsFrom all' ts i → known_fields c.types (m r) ≡ all' → root_of r (m r) ≡ root → Seen r0 read r → AllBelow c.types root ts ks ss r i read m → ReadsFirst f at ps ks ss r i read mid more → Froms r0 read m → Quiet f at end m → mid ≤ end → Reads (ReadyFirst ps ks ss) (AllBelow c.types root ts ks ss r i) (all_in ss) at read m mid more
    all_reads root all' ts M.NoPatterns ks ss r i at read m mid more end are asks differ off may from fs roots known parts h froms quiet le = absurd (cc)
    all_reads root all' ts (M.MorePatterns p ps) NoKnowns ss r i at read m mid more end are asks differ off may from fs roots known parts h froms quiet le = absurd (cc)
    all_reads root all' [] (M.MorePatterns p ps) (MoreKnowns k ks) ss r i at read m mid more end are asks differ off may from fs roots known parts h froms quiet le = absurd are
    all_reads root all' (t ∷ ts) (M.MorePatterns p ps) (MoreKnowns k ks) NoSpots r i at read m mid more end are asks differ off may from fs roots known parts h froms quiet le =
        reads_none (ReadyFirst (M.MorePatterns p ps) (MoreKnowns k ks) NoSpots) (AllBelow c.types root (t ∷ ts) (MoreKnowns k ks) NoSpots r i) [] at read m mid more h.0 h.1 tt tt froms
    all_reads root all' (t ∷ ts) (M.MorePatterns p ps) (MoreKnowns k ks) (MoreSpots s ss) r i at read m mid more end are asks differ off may from fs roots known parts (inl h) froms quiet le =
        let low = one_end f at r i (register s) read h.1 h.2 h.3 in
        let high = reads_end f h.1 p k s h.2 mid more h.4 in
        let o = read_one root t k s r i at read m h.1 h.2 end (ap (λ ts. slice_get ts i) fs ∙ fields_here all' t ts i from) roots known (λ e. off (inl (sym e))) (may (register s) (inl refl)) differ.0 parts.0 h.3 froms quiet (omega (arith, high, le)) in
        let sub = reads root t p k s h.1 h.2 o.following mid more end are.0 (is_asking (compare p k) h.0) differ.3 differ.0 (λ z a. may z (in_head z s ss a))
        (subst (OwnKind c.types root t k (register s)) (sym o.kind) (own_part c.types root t k (register s) r i)) (inr o.seen) o.parts h.4 o.froms (came_quiet c f at h.1 end m o.following o.came quiet) le in
        joined root t ts p ps k ks s ss r i at read m mid more (inl (h.0, sub.kept (register s) o.seen, sub.ready)) h.1 h.2 differ parts.1 o sub
    all_reads root all' (t ∷ ts) (M.MorePatterns p ps) (MoreKnowns k ks) (MoreSpots s ss) r i at read m mid more end are asks differ off may from fs roots known parts (inr h) froms quiet le =
        let rest = all_reads root all' ts ps ks ss r (suc i) at read m mid more end are.1 (both_asks (compare p k) (compare_all ps ks) asks h.0) differ.4 (λ a. off (in_tail r s ss a)) (λ z a. may z (in_tail z s ss a)) (fields_next all' t ts i from) fs roots known parts.1 h.1 froms quiet le in
        passed root t ts p ps k ks s ss r i at read m mid more h.0 differ parts.0 rest
