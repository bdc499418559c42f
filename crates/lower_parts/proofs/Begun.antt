-- How a match begins: what is known where its tests begin, and what is reported there.
use Rattle.std.proofs.Common.{◌≡◌, ◌⊎◌, inl, inr, refl, sym, ap, ◌∙◌, subst, arith, true≢false, ℕ, zero, suc, ◌<◌, ◌≤◌, Bool, true, false, List, [], ◌∷◌, length, map, Option, Some, None, slice_get}
use Rattle.std.specs.Prelude.{not, ◌&&◌}
use Rattle.std.proofs.lemmas.Bool.{cases_eq}
use Rattle.fip_language.specs.Every.{Among}
use Rattle.fip_language.specs.Table.{Table}
use Rattle.fip_trees.specs.declared.needs.Need.{Need}
use Rattle.fip_trees.specs.Tree.{Argument, Variable, Literal, Constructor, Pattern, Clauses}
use Rattle.fip_trees.specs.TreeView.{Case}
use Rattle.cell_code.specs.declared.kind.Kind.{Kind}
use Rattle.cell_code.specs.Plain.{PlainFunction, PlainCode}
use Rattle.lower_frame.specs.code_rules.Codes.{label_at}
use Rattle.match_knowledge.specs.Patterns.{IsPattern}
use Rattle.lower_frame.specs.lowering_relation.declared.held.Held.TheVariants as H
use Rattle.lower_frame.specs.lowering_relation.Known.{Known, register_of}
use Rattle.lower_frame.specs.lowering_relation.Values.{Setting, is_scalar}
use Rattle.lower_frame.specs.lowering_relation.LoweredBodies.{Target, Return, Into}
use Rattle.lower_frame.specs.lowering_relation.Written.{Written, size, settled, Extends, HasFrom, place_of}
use Rattle.lower_frame.specs.lowering_relation.WellMatched.{WellMatchedClauses}
use Rattle.lower_frame.specs.lowering_relation.Rows.{row_of, patterns_in}
use Rattle.lower_frame.specs.lowering_relation.Spots as S
use Rattle.lower_frame.specs.lowering_relation.Landing.{IsScene}
use Rattle.lower_frame.proofs.lowering_relation.Placing.{extends_on, back, has_all}
use Rattle.lower_frame.specs.lowering_relation.Describing.{held_at, kinds_of}
use Rattle.lower_frame.specs.lowering_relation.Labels.{Reports}
use Rattle.lower_frame.specs.lowering_relation.Joins.{BaresEnd}
use Rattle.lower_frame.specs.lowering_relation.Matches.{variable_of}
use Rattle.lower_frame.specs.Credits.{Accounted, AllSolid}
use Rattle.lower_frame.specs.Frames.{kinds_reported}
use Rattle.lower_frame.specs.Labels.{Rising}
use Rattle.lower_frame.specs.Positions.{reaching, spot_of}
use Rattle.lower_frame.specs.Registers.{registers}
use Rattle.lower_frame.proofs.Labels.{rising_higher, rising_reported}
use Rattle.lower_parts.specs.declared.match_state.Matching.{Matching}
use Rattle.lower_parts.specs.Scenes.{scene, patterns_of, HasRows}
use Rattle.lower_parts.specs.Writing.{Computes, Named}
use Rattle.lower_parts.specs.Laying.{ForgetsLaid, Underway}
use Rattle.lower_parts.specs.Bodies.{ScalarsRight, IsSome, Waits}
use Rattle.lower_parts.specs.Leaving.{EndsMatchedLaid}
use Rattle.lower_parts.specs.Matches.{BeginsLaid}
use Rattle.lower_parts.proofs.Lessening.{Less, less_same, less_on, less_wide, less_reaching, less_bares, solid_less, named_less, waits_less, not_yet, wide_wide}
use Rattle.lower_parts.proofs.Matching.{typed_in}
use Rattle.lower_parts.proofs.Parted.{none_past}
use Rattle.lower_parts.proofs.Shown.{shown_reported}
use Rattle.fip_language.proofs.Facts.{and_not_false as both_right, none_some, same_some}

-- a scrutinee is a variable: nothing is written for it

pub record Scrutinee (k : Known) (a : Argument) (r : ℕ) (v : Written) (l : Known) (w : Written) : Type 0 where
  pub variable : Option ℕ
  pub is : variable_of a ≡ Some variable
  pub named : register_of k.names variable ≡ Some r
  pub long : size w ≡ size v
  pub known : l ≡ k

pub scrutinee : (s : Setting) (k : Known) (v : Written) (a : Argument) (r : ℕ) (l : Known) (w : Written) → Computes s k v a r l w → IsSome (variable_of a) → Scrutinee k a r v l w
scrutinee s k v (Variable x n p) r l w h there =
    let is = h.code (place_of w.places) (map (settled (place_of w.places)) w.instrs) (back 0 (size v) w (place_of w.places) (map (settled (place_of w.places)) w.instrs) (omega arith) (has_all w (map (settled (place_of w.places)) w.instrs) refl)) in
    record { variable = x; is = refl; named = is.named; long = is.nothing; known = is.known }
scrutinee s k v (Literal i p) r l w h there = absurd there
scrutinee s k v (Constructor t d c n p as') r l w h there = absurd there

-- constructors that were matched before are used up where the clauses meet again

pub record Bared (k : Known) (v : Written) (l : Known) (w : Written) : Type 0 where
  pub less : Less k l
  pub maps : w.maps ≡ v.maps
  pub names : l.names ≡ k.names
  pub next : l.next ≡ k.next
  pub still : size w ≡ size v → l ≡ k

bared_none : (k : Known) (v : Written) → Bared k v k v
bared_none k v = record { less = less_same k; maps = refl; names = refl; next = refl; still = λ e. refl }

pub bared : (target : Target) (k : Known) (v : Written) (l : Known) (w : Written) → registers l ≡ registers k → EndsMatchedLaid target k v l w → Bared k v l w
bared Return k v l w many h = subst (λ x. Bared k v x w) (sym h.0) (subst (Bared k v k) (sym h.1) (bared_none k v))
bared (Into ds) k v l w many h = record { less = less_bares k v l w many h; maps = h.maps; names = h.names; next = h.next; still = h.still }

pub bared_return : (target : Target) (k : Known) (v : Written) (l : Known) (w : Written) → EndsMatchedLaid target k v l w → target ≡ Return → (l ≡ k) × (size w ≡ size v)
bared_return Return k v l w h e = (h.0, ap size h.1)
bared_return (Into ds) k v l w h e = absurd (cc)

pub bared_into : (target : Target) (k : Known) (v : Written) (l : Known) (w : Written) → EndsMatchedLaid target k v l w → (ds : List ℕ) → target ≡ Into ds → Accounted k → (c : PlainCode) (to : ℕ → ℕ) (f : PlainFunction) → HasFrom (size v) w to f.instrs → BaresEnd c f (size v) k (size w) l
bared_into Return k v l w h ds e = absurd (cc)
bared_into (Into es) k v l w h ds e = h.by

-- what was built is forgotten, or nothing was

pub record Forgot (k l : Known) : Type 0 where
  pub less : Less k l
  pub names : l.names ≡ k.names
  pub next : l.next ≡ k.next

pub forgot_by : (tb : Table) (r : ℕ) (k : Known) (v : Written) (l : Known) (w : Written) → ForgetsLaid tb r k v l w → Forgot k l
forgot_by tb r k v l w (inl e) = subst (Forgot k) (sym e.0) (record { less = less_same k; names = refl; next = refl })
forgot_by tb r k v l w (inr e) = subst (Forgot k) (sym e.0) (record { less = less_wide k; names = refl; next = refl })

forgot_rising : (tb : Table) (r : ℕ) (k : Known) (v : Written) (l : Known) (w : Written) → ForgetsLaid tb r k v l w → Rising (size v) 0 v.maps → Rising (size v) 0 w.maps
forgot_rising tb r k v l w (inl e) h = subst (Rising (size v) 0) (sym e.1) h
forgot_rising tb r k v l w (inr e) h = subst (Rising (size v) 0) (sym e.1) (rising_reported (size v) (kinds_reported tb l.held) v.maps h)

-- what is reported where the tests begin
shown_begun : (tb : Table) (r : ℕ) (k0 k l : Known) (v0 v w : Written) → ForgetsLaid tb r k v l w → size w ≡ size v → v.maps ≡ v0.maps → size v0 ≤ size v → (size v ≡ size v0 → k ≡ k0) → Underway tb k0 v0 → registers k ≡ registers k0 → (map : List Kind) → label_at w.maps (size w) ≡ Some map → Reports (registers l) map (kinds_of tb (held_at l.held))
shown_begun tb r k0 k l v0 v w (inl e) long same grows still under many map there = by (cases_eq (size v) (size v0))
  where
    here : label_at v0.maps (size v) ≡ Some map
    here = sym (ap (λ ms. label_at ms (size v)) same) ∙ sym (ap (λ ms. label_at ms (size v)) e.1) ∙ ap (λ n. label_at w.maps n) (sym long) ∙ there

    by : (size v ≡ size v0) ⊎ (size v ≡ size v0 → ⊥) → Reports (registers l) map (kinds_of tb (held_at l.held))
    by (inl x) = subst (λ (y : Known). Reports (registers y) map (kinds_of tb (held_at y.held))) (sym (e.0 ∙ still x)) (under.shown map (sym (ap (label_at v0.maps) x) ∙ here))
    by (inr x) = absurd (none_some map (sym (none_past (size v0) 0 v0.maps (size v) under.rising (omega (arith, grows, x))) ∙ here))
shown_begun tb r k0 k l v0 v w (inr e) long same grows still under many map there =
    shown_reported tb l v w (wide_wide k l e.0) e.1 long (subst (Rising (size v) 0) (sym same) (rising_higher (size v0) (size v) 0 v0.maps grows under.rising)) map there

-- what is so of a match of which the tests are being written: registers below `low` were used before, of n ones

pub record Facts (s : Setting) (g : Matching) (low n : ℕ) : Type 0 where
  pub scalars : ScalarsRight s
  pub is : IsScene (scene s.types low g.choice)
  pub has : HasRows g.choice
  pub takes : g.choice.takes ≡ true → is_scalar s g.choice.ty ≡ false
  pub accounts : Accounted g.entry
  pub named : Named g.entry
  pub solid : AllSolid g.entry (S.register (spot_of g.choice.root) ∷ [])
  pub many : registers g.entry ≡ n
  pub room : g.entry.next ≤ n
  pub fresh : (z : ℕ) → Among z (S.below (spot_of g.choice.root)) → (low ≤ z) × (z < g.entry.next) × (held_at g.entry.held z ≡ H.Nothing)
  pub entries : length g.choice.entries.items ≡ length (patterns_of g.choice)

-- a register that waits for a result, and isn't used for the match
pub record Idle (g : Matching) (low d : ℕ) : Type 0 where
  pub waits : Waits g.entry d
  pub below : d < low
  pub apart : d ≡ S.register (spot_of g.choice.root) → ⊥

pub record Begun (s : Setting) (k : Known) (v : Written) (a : Argument) (g : Matching) (before : Known) (given_up : Written) (forgot : Known) (w : Written) : Type 0 where
  pub variable : Option ℕ
  pub is : variable_of a ≡ Some variable
  pub named : register_of before.names variable ≡ Some (S.register (spot_of g.choice.root))
  pub less : Less k before
  pub still : size given_up ≡ size v → before ≡ k
  pub maps : given_up.maps ≡ v.maps
  pub extends : Extends v given_up
  pub forgets : Less before forgot
  pub reported : Written
  pub reported_on : Extends reported w
  pub forgotten : ForgetsLaid s.types (S.register (spot_of g.choice.root)) before given_up forgot reported
  pub next : forgot.next ≡ before.next
  pub names : forgot.names ≡ before.names
  pub entry : g.entry ≡ reaching forgot g.entry.next
  pub more : forgot.next ≤ g.entry.next
  pub onward : Extends given_up w
  pub long : size w ≡ size given_up
  pub rising : Rising (size w) 0 w.maps
  pub shown : (map : List Kind) → label_at w.maps (size w) ≡ Some map → Reports (registers k) map (kinds_of s.types (held_at g.entry.held))
  pub facts : Facts s g forgot.next (registers k)
  pub idle : (d : ℕ) → Waits k d → Idle g forgot.next d

typed_first : (tb : Table) (t : ℕ) (q : Pattern) (cs : Clauses) → IsPattern tb t (row_of q) → WellMatchedClauses tb t cs → (i : ℕ) (x : Pattern) → slice_get (q ∷ patterns_in cs) i ≡ Some x → IsPattern tb t (row_of x)
typed_first tb t q cs first others zero x e = subst (λ z. IsPattern tb t (row_of z)) (same_some q x e) first
typed_first tb t q cs first others (suc i) x e = typed_in tb t cs others i x e

module _ (s : Setting) (fip : Bool) (ns : List Need) (k : Known) (v : Written) (d : Bool) (a : Argument) (t : ℕ) (c : Case) (cs : Clauses) (target : Target) (g : Matching) (w : Written) (h : BeginsLaid s fip ns k v d a t c cs target g w) (scalars : ScalarsRight s) (under : Underway s.types k v) (variable : IsSome (variable_of a)) (first : IsPattern s.types t (row_of c.pattern)) (others : WellMatchedClauses s.types t cs) where
  value : Scrutinee k a h.register v h.computed h.valued
  value = scrutinee s k v a h.register h.computed h.valued h.computes variable

  bare : Bared h.computed h.valued h.before h.given_up
  bare = bared target h.computed h.valued h.before h.given_up h.given_many h.bares

  forgets : Forgot h.before h.forgot
  forgets = forgot_by s.types h.register h.before h.given_up h.forgot h.reported h.forgets

  less_before : Less k h.before
  less_before = subst (λ y. Less y h.before) value.known bare.less

  names_before : h.before.names ≡ k.names
  names_before = bare.names ∙ ap (λ (y : Known). y.names) value.known

  next_before : h.before.next ≡ k.next
  next_before = bare.next ∙ ap (λ (y : Known). y.next) value.known

  maps_before : h.given_up.maps ≡ v.maps
  maps_before = bare.maps ∙ h.computes.maps

  still_before : size h.given_up ≡ size v → h.before ≡ k
  still_before e = bare.still (e ∙ sym value.long) ∙ value.known

  to_given : Extends v h.given_up
  to_given = extends_on v h.valued h.given_up h.computes.extends h.given_extends

  less_forgot : Less k h.forgot
  less_forgot = less_on k h.before h.forgot less_before forgets.less

  more : h.forgot.next ≤ g.entry.next
  more = h.positions.spotted.grows

  to_entry : Less h.forgot g.entry
  to_entry = subst (Less h.forgot) (sym h.entry) (less_reaching h.forgot g.entry.next more)

  less_entry : Less k g.entry
  less_entry = less_on k h.forgot g.entry less_forgot to_entry

  accounts_forgot : Accounted h.forgot
  accounts_forgot = less_forgot.accounts under.accounts

  accounts : Accounted g.entry
  accounts = less_entry.accounts under.accounts

  next_forgot : h.forgot.next ≡ k.next
  next_forgot = forgets.next ∙ next_before

  solid : AllSolid k (h.register ∷ [])
  solid = by value.variable value.named
    where
      by : (o : Option ℕ) → register_of k.names o ≡ Some h.register → AllSolid k (h.register ∷ [])
      by None e = absurd (none_some h.register e)
      by (Some y) e = under.named y h.register e

  abbrev root : ℕ
  root = S.register (spot_of g.choice.root)

  solid_root : AllSolid k (root ∷ [])
  solid_root = subst (λ r. AllSolid k (r ∷ [])) (sym h.positions.root) solid

  named_root : register_of h.before.names value.variable ≡ Some root
  named_root = ap (λ ns. register_of ns value.variable) names_before ∙ value.named ∙ ap Some (sym h.positions.root)

  fresh : (z : ℕ) → Among z (S.below (spot_of g.choice.root)) → (h.forgot.next ≤ z) × (z < g.entry.next) × (held_at g.entry.held z ≡ H.Nothing)
  fresh z i = let y = h.positions.spotted.fresh z i in (y.0, y.1, ap (λ (u : Known). held_at u.held z) h.entry ∙ not_yet h.forgot z accounts_forgot y.0)

  facts : Facts s g h.forgot.next (registers k)
  facts = record {
    scalars = scalars;
    is = record {
      roomy = h.positions.roomy;
      typed = λ i q e. subst (λ z. IsPattern s.types z (row_of q)) (sym h.positions.type) (typed_first s.types t c.pattern cs first others i q (ap (λ z. slice_get z i) (sym h.patterns) ∙ e));
      differ = h.positions.spotted.differ;
      used = let y = solid_root.0 in omega (arith, y, next_forgot);
      fresh = λ z i. (h.positions.spotted.fresh z i).0;
    };
    has = h.positions.rows;
    takes = λ e. both_right d (is_scalar s g.choice.ty) (ap (λ y. d && not (is_scalar s y)) h.positions.type ∙ sym h.takes ∙ e);
    accounts = accounts;
    named = named_less k g.entry less_entry under.named;
    solid = solid_less k g.entry (root ∷ []) less_entry solid_root;
    many = less_entry.many;
    room = let y = h.room in let z = less_forgot.many in let u = under.room in omega (arith, y, z, u, next_forgot);
    fresh = fresh;
    entries = h.entries;
  }

  named_apart : (d : ℕ) → Waits k d → d ≡ root → ⊥
  named_apart d waits e = by value.variable value.named
    where
      by : (o : Option ℕ) → register_of k.names o ≡ Some h.register → ⊥
      by None y = none_some h.register y
      by (Some z) y = waits.unnamed z (y ∙ ap Some (sym h.positions.root ∙ sym e))

  long : size w ≡ size h.given_up
  long = h.as_long ∙ h.reported_long

  rising : Rising (size w) 0 w.maps
  rising = subst (λ n. Rising n 0 w.maps) (sym long) (subst (Rising (size h.given_up) 0) (sym h.maps)
      (forgot_rising s.types h.register h.before h.given_up h.forgot h.reported h.forgets
      (subst (Rising (size h.given_up) 0) (sym maps_before) (rising_higher (size v) (size h.given_up) 0 v.maps to_given.grows under.rising))))

  shown : (map : List Kind) → label_at w.maps (size w) ≡ Some map → Reports (registers k) map (kinds_of s.types (held_at g.entry.held))
  shown map e = subst (λ n. Reports n map (kinds_of s.types (held_at g.entry.held))) less_forgot.many
      (subst (λ (y : Known). Reports (registers h.forgot) map (kinds_of s.types (held_at y.held))) (sym h.entry)
      (shown_begun s.types h.register k h.before h.forgot v h.given_up h.reported h.forgets h.reported_long maps_before to_given.grows still_before under less_before.many map
      (sym (ap (λ ms. label_at ms (size h.reported)) h.maps) ∙ ap (λ n. label_at w.maps n) (sym h.as_long) ∙ e)))

  pub begun : Begun s k v a g h.before h.given_up h.forgot w
  begun = record {
    variable = value.variable;
    is = value.is;
    named = named_root;
    less = less_before;
    still = still_before;
    maps = maps_before;
    extends = to_given;
    forgets = forgets.less;
    reported = h.reported;
    reported_on = h.extends;
    forgotten = subst (λ r. ForgetsLaid s.types r h.before h.given_up h.forgot h.reported) (sym h.positions.root) h.forgets;
    next = forgets.next;
    names = forgets.names;
    entry = h.entry;
    more = more;
    onward = extends_on h.given_up h.reported w h.reported_extends h.extends;
    long = long;
    rising = rising;
    shown = shown;
    facts = facts;
    idle = λ d waits. record {
      waits = waits_less k g.entry d less_entry accounts waits;
      below = let y = waits.used in omega (arith, y, next_forgot);
      apart = named_apart d waits;
    };
  }

  -- where its clauses give the function's results nothing is given up before
  pub begun_return : target ≡ Return → (h.before ≡ k) × (size h.given_up ≡ size v)
  begun_return e = let y = bared_return target h.computed h.valued h.before h.given_up h.bares e in (y.0 ∙ value.known, y.1 ∙ value.long)

  -- and where they go to registers, constructors that were matched are used up
  pub begun_bares : (ds : List ℕ) → target ≡ Into ds → (p : PlainCode) (to : ℕ → ℕ) (o : PlainFunction) → HasFrom (size v) h.given_up to o.instrs → BaresEnd p o (size v) k (size h.given_up) h.before
  begun_bares ds e p to o has =
      subst (λ n. BaresEnd p o n k (size h.given_up) h.before) value.long (subst (λ y. BaresEnd p o (size h.valued) y (size h.given_up) h.before) value.known
      (bared_into target h.computed h.valued h.before h.given_up h.bares ds e (subst Accounted (sym value.known) under.accounts) p to o (subst (λ n. HasFrom n h.given_up to o.instrs) (sym value.long) has)))
