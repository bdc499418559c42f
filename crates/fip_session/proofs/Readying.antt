-- The words of a call's arguments, one after another, and the cells of its credits.
-- Idea: what is used is live, and what is live stays as it is while cells are made; so trees that stand go on standing.
use Rattle.std.proofs.Common.{◌≡◌, ◌⊎◌, inl, inr, ◌∙◌, ◌≤◌, ◌<◌, ◌+◌, ◌-◌, ℕ, zero, suc, Bool, true, false, List, [], ◌∷◌, ◌++◌, length, map, drop, Option, Some, None, option_map, append_assoc, append-nil, refl, sym, ap, subst, arith, if◌then◌else◌}
use Rattle.std.specs.Prelude.{slice_get}
use Rattle.std.proofs.lemmas.Option.{none-some, same_Some}
use Rattle.std.specs.BTreeMap.{BTreeMap}
use Rattle.std.specs.declared.slice.Iter.{Iter}
use Rattle.std.specs.declared.alloc.Global.{Global}
use Rattle.std.specs.declared.vec.Vec.{Vec}
use Rattle.cell_store.specs.Cells.{Cells, cell_at}
use Rattle.cell_store.specs.Made.{Loading}
use Rattle.fip_base.specs.declared.plain.Param.{Param}
use Rattle.fip_language.specs.Character.{characters}
use Rattle.fip_language.specs.Core.{Name}
use Rattle.fip_language.specs.Declarations.{same_name}
use Rattle.fip_language.specs.Every.{Every}
use Rattle.fip_language.specs.SoundTable.{AreTypes}
use Rattle.fip_language.specs.Store.{Cell, Placed, Parts, NoParts, MoreParts, value_of, values_of, word_of, words_of, uses, uses_of_all, count}
use Rattle.fip_language.specs.Table.{Table}
use Rattle.fip_language.specs.Values.{Value, Values, End, More, cells}
use Rattle.fip_language.specs.declared.limits.TheConstants.{MOST_FIELDS}
use Rattle.session_lines.specs.Said.{IsGiven, AreGiven}
use Rattle.session_lines.specs.declared.line.Written.{Written as Argument}
use Rattle.session_lines.specs.session_semantics.Lines.{Given as Written, Held as Named, Fresh as New, Written as Text, WrittenText, symbols}
use Rattle.session_lines.specs.session_semantics.Talk.{Holding, IsTaken, AreTaken, held_as, named_by, written, credits_of}
use Rattle.session_lines.specs.session_semantics.Typed.{IsValue}
use Rattle.session_values.specs.Made.{AreMade}
use Rattle.session_values.proofs.CellsKept.{used_live, made_none, made_both, all_on}
use Rattle.session_correctness.specs.Lodging.{Lodged, holding_of, lodged_as, lodged_uses, IsTree, AreTrees, fresh_in, fresh_uses}
use Rattle.session_correctness.proofs.Speaking.{held_lodged}
use Rattle.value_text.specs.Loaded.{live_in, live, types_of, free_in, AreZero, cell_words}
use Rattle.value_text.specs.Machine.{join}
use Rattle.value_text.specs.Single.{BeginsWith, IsPlaced, IsValueMade, AreCreditsMade}
use Rattle.value_text.specs.Standing.{Stands, StandAll}
use Rattle.value_text.proofs.Built.{parts_join, values_join, words_join, uses_join}
use Rattle.value_text.proofs.OneValue.{value_same}
use Rattle.value_text.proofs.Tables.{is_table}
use Rattle.fip_session.specs.Named.{found}
use Rattle.fip_session.specs.Planned.{CanTake, CanTakeAll, Finds, held_by}
use Rattle.fip_session.specs.Readied.{fresh_one, fresh_list, Lie, IsPut, ArePut, IsReady}
use Rattle.fip_session.specs.declared.book.Held.{Held}
use Rattle.fip_session.specs.declared.ready.Fresh.{Fresh}
use Rattle.fip_session.specs.declared.ready.Ready.{Ready}
use Rattle.fip_session.proofs.Planning.{placed, begins_there}
use Rattle.fip_session.proofs.Weighing.{credits_are}
use Rattle.fip_session.proofs.Accepting.{written_more}
use Rattle.session_values.proofs.CellsKept.{live_few}
use Rattle.value_text.proofs.Counted.{join-end as join_nothing}
use Rattle.value_text.proofs.Residual.{join-assoc as join_assoc}

-- ---- what is held under a name

pub every_at : (P : Lodged → Type 0) (name : Name) (l : Lodged) (ls : List Lodged) → lodged_as name ls ≡ Some l → Every P ls → P l
every_at P name l [] e h = absurd (none-some l e)
every_at P name l (m ∷ ls) e h = by (same_name name m.name) (λ f. every_at P name l ls f h.1) e
  where
    by : (b : Bool) → (lodged_as name ls ≡ Some l → P l) → (if b then Some m else lodged_as name ls) ≡ Some l → P l
    by true rest f = subst P (same_Some m l f) h.0
    by false rest f = rest f

pub uses_at : (name : Name) (l : Lodged) (ls : List Lodged) (q : ℕ) → lodged_as name ls ≡ Some l → uses q l.tree ≤ lodged_uses ls q
uses_at name l [] q e = absurd (none-some l e)
uses_at name l (m ∷ ls) q e = by (same_name name m.name) (λ f. uses_at name l ls q f) e
  where
    by : (b : Bool) → (lodged_as name ls ≡ Some l → uses q l.tree ≤ lodged_uses ls q) → (if b then Some m else lodged_as name ls) ≡ Some l → uses q l.tree ≤ lodged_uses (m ∷ ls) q
    by true rest f = (let same = ap (λ (h : Lodged). uses q h.tree) (same_Some m l f) in omega (arith, same))
    by false rest f = (let r = rest f in omega (arith, r))

pub lodged_of : (b : BTreeMap (Vec ℕ Global) Held) (ls : List Lodged) → Finds b ls → (name : Name) (h : Held) → found b name ≡ Some h → (l : Lodged) × (lodged_as name ls ≡ Some l) × (h ≡ held_by l)
lodged_of b ls finds name h e = by (lodged_as name ls) refl (sym (finds name) ∙ e)
  where
    by : (o : Option Lodged) → lodged_as name ls ≡ o → option_map held_by o ≡ Some h → (l : Lodged) × (lodged_as name ls ≡ Some l) × (h ≡ held_by l)
    by None e f = absurd (none-some h f)
    by (Some l) e f = (l, e, sym (same_Some (held_by l) h f))

-- ---- live cells

-- what was live is so where cells are made
pub live_on : (a b : Loading) (f : ℕ → ℕ) (p : ℕ) → AreMade a b f → live a p ≡ 1 → live b p ≡ 1
live_on a b f p m is = (let o = m.once p in let few = live_few b p in omega (arith, o, few, is))

pub one_on : (tb : Table) (cs ds : Cells) (k : ℕ) (x : Placed) → ((p : ℕ) → 1 ≤ uses p x → cell_at ds p ≡ cell_at cs p) → Stands tb cs k x → Stands tb ds k x
one_on tb cs ds k x same h = (all_on tb cs ds (k ∷ []) (MoreParts x NoParts) (λ p some. same p (omega (arith, some))) (h, tt)).0

pub all_stand : (tb : Table) (cs ds : Cells) (ls : List Lodged) → ((p : ℕ) → 1 ≤ lodged_uses ls p → cell_at ds p ≡ cell_at cs p) → Every (λ h. Stands tb cs h.type h.tree) ls → Every (λ h. Stands tb ds h.type h.tree) ls
all_stand tb cs ds [] same h = tt
all_stand tb cs ds (l ∷ ls) same h = (one_on tb cs ds l.type l.tree (λ p some. same p (omega (arith, some))) h.0, all_stand tb cs ds ls (λ p some. same p (omega (arith, some))) h.1)

-- what is held lies there still where cells are made
pub lie_on : (tb : Table) (ls : List Lodged) (a b : Loading) (f : ℕ → ℕ) → AreMade a b f → Lie tb ls a → Lie tb ls b
lie_on tb ls a b f m h = record {
  stand = all_stand tb a.cells b.cells ls (λ p some. m.kept p (h.alive p some)) h.stand;
  alive = λ p some. live_on a b f p m (h.alive p some);
}

-- ---- one argument

module _ (tb : Table) (ls : List Lodged) (before : List Name) (q : Param) (old new : Loading) (r s : Ready) where
  pub name_put : (b : BTreeMap (Vec ℕ Global) Held) (name : Name) (v : Value) (h : Held) → Finds b ls → Lie tb ls old → found b name ≡ Some h → IsTaken tb (map holding_of ls) before q (Named name) v → new ≡ old → s.words.items ≡ r.words.items ++ h.word ∷ [] → s.values.items ≡ r.values.items → IsPut tb ls before q (Named name) v old new r s
  name_put b name v h finds lie is t same pushed noted =
      let l = lodged_of b ls finds name h is in
      let holds : holding_of l.0 ≡ t.0 = same_Some (holding_of l.0) t.0 (sym (held_lodged name ls ∙ ap (option_map holding_of) l.1) ∙ t.1) in
      let ty : (l.0).type ≡ q.ty = ap (λ (h : Holding). h.type) holds ∙ t.2 in
      let put : (now : Loading) → now ≡ old → IsPut tb ls before q (Named name) v old old r s = λ now e. record {
        tree = (l.0).tree;
        given = (l.0, l.1, ty, refl, t.4);
        value = ap (λ (h : Holding). h.value) holds ∙ sym t.3;
        stands = subst (λ k. Stands tb old.cells k (l.0).tree) ty (every_at (λ (h : Lodged). Stands tb old.cells h.type h.tree) name l.0 ls l.1 lie.stand);
        word = pushed ∙ ap (λ (h : Held). r.words.items ++ h.word ∷ []) l.2;
        noted = noted ∙ sym (append-nil r.values.items);
        made = made_none old (λ p. 0) (λ p. refl);
        free = λ k le. omega arith;
        alive = λ p some. lie.alive p (let u = uses_at name l.0 ls p l.1 in omega (arith, some, u));
      } in
      subst (λ now. IsPut tb ls before q (Named name) v old now r s) (sym same) (put new same)

  pub value_put : (bytes : List ℕ) (start end : ℕ) (w : Text) (v : Value) (word : ℕ) → CanTake tb q.ty bytes → WrittenText (symbols (drop start bytes)) w (symbols (drop end bytes)) → IsValue tb q.ty w v → IsValueMade tb q.ty (drop start bytes) old new word → s.words.items ≡ r.words.items ++ word ∷ [] → s.values.items ≡ r.values.items ++ record { held = record { ty = q.ty; word = word }; is_lent = q.lent } ∷ [] → IsPut tb ls before q (New w) v old new r s
  value_put bytes start end w v word can text is m pushed noted =
      let begins : BeginsWith tb q.ty (drop start bytes) v = begins_there tb q.ty bytes can start end w text v is in
      let same : value_of m.tree ≡ v = (value_same tb (is_table tb can.sound) q.ty (characters (drop start bytes)) (value_of m.tree) v m.spelled.0 begins.0 m.spelled.1 begins.1).0 in
      let made : AreMade old new (λ p. uses p m.tree) = record { once = m.once; kept = m.kept } in
      record {
        tree = m.tree;
        given = subst (IsValue tb q.ty w) (sym same) is;
        value = same;
        stands = m.stands;
        word = pushed ∙ ap (λ n. r.words.items ++ n ∷ []) m.named;
        noted = noted ∙ ap (λ n. r.values.items ++ record { held = record { ty = q.ty; word = n }; is_lent = q.lent } ∷ []) m.named;
        made = made;
        free = λ k le. (let f = m.free k le in let c = ap (cells k) same in omega (arith, f, c));
        alive = λ p some. used_live old new (λ p. uses p m.tree) p made some;
      }

-- ---- all of them

stand_join : (tb : Table) (cs : Cells) (ks js : List ℕ) (xs ys : Parts) → StandAll tb cs ks xs → StandAll tb cs js ys → StandAll tb cs (ks ++ js) (parts_join xs ys)
stand_join tb cs [] js NoParts ys h k = k
stand_join tb cs [] js (MoreParts x xs) ys h k = absurd h
stand_join tb cs (i ∷ ks) js NoParts ys h k = absurd h
stand_join tb cs (i ∷ ks) js (MoreParts x xs) ys h k = (h.0, stand_join tb cs ks js xs ys h.1 k)

parts_nothing : (xs : Parts) → parts_join xs NoParts ≡ xs
parts_nothing NoParts = refl
parts_nothing (MoreParts x xs) = ap (MoreParts x) (parts_nothing xs)

parts_snoc : (xs : Parts) (x : Placed) (ys : Parts) → parts_join (parts_join xs (MoreParts x NoParts)) ys ≡ parts_join xs (MoreParts x ys)
parts_snoc NoParts x ys = refl
parts_snoc (MoreParts z xs) x ys = ap (MoreParts z) (parts_snoc xs x ys)

-- what is made of the arguments so far, and what is left of them
pub record Putting (tb : Table) (bytes : List ℕ) (ls : List Lodged) (qs : List Param) (gs : List Written) (vs : Values) (first now : Loading) (r : Ready) (qs' : List Param) (as' : List Argument) : Type 0 where
  pub done : List ℕ
  pub trees : Parts
  pub before : List Name
  pub left : List Written
  pub rest : Values
  pub are : AreGiven bytes as' left
  pub taken : AreTaken tb (map holding_of ls) before qs' left rest
  pub types_are : types_of qs ≡ done ++ types_of qs'
  pub given : (ys : Parts) → AreTrees tb ls before qs' left ys → AreTrees tb ls [] qs gs (parts_join trees ys)
  pub values : vs ≡ join (values_of trees) rest
  pub words : r.words.items ≡ words_of trees
  pub stand : StandAll tb now.cells done trees
  pub noted : (ys : Parts) → fresh_list qs gs (parts_join trees ys) ≡ r.values.items ++ fresh_list qs' left ys
  pub used : ℕ → ℕ
  pub uses_are : (ys : Parts) (p : ℕ) → fresh_uses gs (parts_join trees ys) p ≡ used p + fresh_uses left ys p
  pub made : AreMade first now used
  pub wrote : ℕ → ℕ
  pub wrote_are : (k : ℕ) → written k gs vs ≡ wrote k + written k left rest
  pub free : (k : ℕ) → k ≤ MOST_FIELDS → free_in now k ≡ free_in first k - wrote k
  pub alive : (p : ℕ) → 1 ≤ uses_of_all p trees → live now p ≡ 1
  pub lie : Lie tb ls now

pub putting_starts : (tb : Table) (bytes : List ℕ) (ls : List Lodged) (qs : List Param) (gs : List Written) (vs : Values) (first : Loading) (r : Ready) (as' : List Argument) → Lie tb ls first → AreGiven bytes as' gs → AreTaken tb (map holding_of ls) [] qs gs vs → r.words.items ≡ [] → r.values.items ≡ [] → Putting tb bytes ls qs gs vs first first r qs as'
putting_starts tb bytes ls qs gs vs first r as' lie are taken words noted = record {
  done = [];
  trees = NoParts;
  before = [];
  left = gs;
  rest = vs;
  are = are;
  taken = taken;
  types_are = refl;
  given = λ ys h. h;
  values = refl;
  words = words;
  stand = tt;
  noted = λ ys. ap (λ fs. fs ++ fresh_list qs gs ys) (sym noted);
  used = λ p. 0;
  uses_are = λ ys p. omega arith;
  made = made_none first (λ p. 0) (λ p. refl);
  wrote = λ k. 0;
  wrote_are = λ k. omega arith;
  free = λ k le. omega arith;
  alive = λ p some. absurd (let z : ⊥ = omega (arith, some) in z);
  lie = lie;
}

types_right : (tb : Table) (done ks : List ℕ) → AreTypes tb (done ++ ks) → AreTypes tb ks
types_right tb [] ks h = h
types_right tb (k ∷ done) ks h = types_right tb done ks h.1

module _ (tb : Table) (bytes : List ℕ) (ls : List Lodged) (qs : List Param) (gs : List Written) (vs : Values) (first now : Loading) (r : Ready) (q : Param) (qs' : List Param) (a : Argument) (as' : List Argument) (p : Putting tb bytes ls qs gs vs first now r (q ∷ qs') (a ∷ as')) where
  pub can_put : CanTakeAll tb (types_of qs) bytes → CanTake tb q.ty bytes
  can_put can = record { sound = can.sound; known = (types_right tb p.done (q.ty ∷ types_of qs') (subst (AreTypes tb) p.types_are can.known)).0; line = can.line }

  -- what comes next
  pub record IsNext : Type 0 where
    pub g : Written
    pub v : Value
    pub gs' : List Written
    pub vs' : Values
    pub left : p.left ≡ g ∷ gs'
    pub rest : p.rest ≡ More v vs'
    pub is : IsGiven bytes a g
    pub are : AreGiven bytes as' gs'
    pub taken : IsTaken tb (map holding_of ls) p.before q g v
    pub taken_too : AreTaken tb (map holding_of ls) (p.before ++ named_by tb q g) qs' gs' vs'

  pub next_is : IsNext
  next_is = by p.left p.rest refl refl p.are p.taken
    where
      by : (hs : List Written) (us : Values) → p.left ≡ hs → p.rest ≡ us → AreGiven bytes (a ∷ as') hs → AreTaken tb (map holding_of ls) p.before (q ∷ qs') hs us → IsNext
      by [] us e f x y = absurd x
      by (g ∷ hs) End e f x y = absurd y
      by (g ∷ hs) (More v us) e f x y = record { g = g; v = v; gs' = hs; vs' = us; left = e; rest = f; is = x.0; are = x.1; taken = y.0; taken_too = y.1 }

  pub putting_on : (n : IsNext) (next : Loading) (s : Ready) → IsPut tb ls p.before q n.g n.v now next r s → Putting tb bytes ls qs gs vs first next s qs' as'
  putting_on n next s t =
      let x = t.tree in
      let one : Parts = MoreParts x NoParts in
      let all : Parts = parts_join p.trees one in
      let same : (y : ℕ) → 1 ≤ uses_of_all y p.trees → cell_at next.cells y ≡ cell_at now.cells y = λ y some. t.made.kept y (p.alive y some) in
      record {
        done = p.done ++ q.ty ∷ [];
        trees = all;
        before = p.before ++ named_by tb q n.g;
        left = n.gs';
        rest = n.vs';
        are = n.are;
        taken = n.taken_too;
        types_are = p.types_are ∙ sym (append_assoc p.done (q.ty ∷ []) (types_of qs'));
        given = λ ys h. subst (AreTrees tb ls [] qs gs) (sym (parts_snoc p.trees x ys)) (p.given (MoreParts x ys) (subst (λ hs. AreTrees tb ls p.before (q ∷ qs') hs (MoreParts x ys)) (sym n.left) (t.given, h)));
        values = p.values ∙ ap (join (values_of p.trees)) (n.rest ∙ ap (λ y. More y n.vs') (sym t.value)) ∙ sym (ap (λ ys. join ys n.vs') (values_join p.trees one) ∙ join_assoc (values_of p.trees) (More (value_of x) End) n.vs');
        words = t.word ∙ ap (λ ws. ws ++ word_of x ∷ []) p.words ∙ sym (words_join p.trees one);
        stand = stand_join tb next.cells p.done (q.ty ∷ []) p.trees one (all_on tb now.cells next.cells p.done p.trees same p.stand) (t.stands, tt);
        noted = λ ys.
            ap (fresh_list qs gs) (parts_snoc p.trees x ys)
            ∙ p.noted (MoreParts x ys)
            ∙ ap (λ hs. r.values.items ++ fresh_list (q ∷ qs') hs (MoreParts x ys)) n.left
            ∙ sym (append_assoc r.values.items (fresh_one q n.g x) (fresh_list qs' n.gs' ys))
            ∙ ap (λ fs. fs ++ fresh_list qs' n.gs' ys) (sym t.noted);
        used = λ y. p.used y + fresh_in n.g x y;
        uses_are = λ ys y.
            let e = ap (λ zs. fresh_uses gs zs y) (parts_snoc p.trees x ys) in
            let u = p.uses_are (MoreParts x ys) y in
            let l = ap (λ hs. fresh_uses hs (MoreParts x ys) y) n.left in
            omega (arith, e, u, l);
        made = made_both first now next p.used (λ y. fresh_in n.g x y) (λ y. p.used y + fresh_in n.g x y) (λ y. refl) p.made t.made;
        wrote = λ k. p.wrote k + written k (n.g ∷ []) (More n.v End);
        wrote_are = λ k.
            let w = p.wrote_are k in
            let l = ap (λ hs. written k hs p.rest) n.left in
            let m = ap (λ us. written k (n.g ∷ n.gs') us) n.rest in
            let o = written_more k n.g n.gs' n.v n.vs' in
            omega (arith, w, l, m, o);
        free = λ k le. (let f = p.free k le in let g = t.free k le in omega (arith, f, g));
        alive = λ y some. by y (uses y x) refl (let u = uses_join y p.trees one in let z : 1 ≤ uses_of_all y p.trees + uses y x = omega (arith, some, u) in z);
        lie = lie_on tb ls now next (λ y. fresh_in n.g x y) t.made p.lie;
      }
    where
      by : (y m : ℕ) → uses y t.tree ≡ m → 1 ≤ uses_of_all y p.trees + uses y t.tree → live next y ≡ 1
      by y zero e some = live_on now next (λ y. fresh_in n.g t.tree y) y t.made (p.alive y (omega (arith, some, e)))
      by y (suc m) e some = t.alive y (omega (arith, e))

-- none is left
pub putting_ends : (tb : Table) (bytes : List ℕ) (ls : List Lodged) (qs : List Param) (gs : List Written) (vs : Values) (first now : Loading) (r : Ready) (qs' : List Param) (as' : List Argument) → (length qs' ≡ 0) ⊎ (length as' ≡ 0) → Putting tb bytes ls qs gs vs first now r qs' as' → ArePut tb ls qs gs vs first now r
putting_ends tb bytes ls qs gs vs first now r qs' as' o p = by qs' as' p.left p.rest o p.are p.taken p.types_are p.values (p.given NoParts) (p.noted NoParts) (λ y. p.uses_are NoParts y) p.wrote_are
  where
    by : (qs' : List Param) (as' : List Argument) (left : List Written) (rest : Values) → (length qs' ≡ 0) ⊎ (length as' ≡ 0) → AreGiven bytes as' left → AreTaken tb (map holding_of ls) p.before qs' left rest → types_of qs ≡ p.done ++ types_of qs' → vs ≡ join (values_of p.trees) rest → (AreTrees tb ls p.before qs' left NoParts → AreTrees tb ls [] qs gs (parts_join p.trees NoParts)) → fresh_list qs gs (parts_join p.trees NoParts) ≡ r.values.items ++ fresh_list qs' left NoParts → ((y : ℕ) → fresh_uses gs (parts_join p.trees NoParts) y ≡ p.used y + fresh_uses left NoParts y) → ((k : ℕ) → written k gs vs ≡ p.wrote k + written k left rest) → ArePut tb ls qs gs vs first now r
    by [] [] [] End o are taken types values given noted uses wrote = record {
      trees = p.trees;
      given = subst (AreTrees tb ls [] qs gs) (parts_nothing p.trees) (given tt);
      values = sym (values ∙ join_nothing (values_of p.trees));
      stand = subst (λ ts. StandAll tb now.cells ts p.trees) (sym (types ∙ append-nil p.done)) p.stand;
      words = p.words;
      noted = sym (ap (fresh_list qs gs) (sym (parts_nothing p.trees)) ∙ noted ∙ append-nil r.values.items);
      made = record {
        once = λ y. (let m = p.made.once y in let u = uses y in let e = ap (λ zs. fresh_uses gs zs y) (parts_nothing p.trees) in omega (arith, m, u, e));
        kept = p.made.kept;
      };
      free = λ k le. (let f = p.free k le in let w = wrote k in omega (arith, f, w));
      alive = p.alive;
      lie = p.lie;
    }
    by [] [] [] (More v us) o are taken types values given noted uses wrote = absurd taken
    by [] [] (g ∷ hs) us o are taken types values given noted uses wrote = absurd are
    by [] (a ∷ as') [] us o are taken types values given noted uses wrote = absurd are
    by [] (a ∷ as') (g ∷ hs) us o are taken types values given noted uses wrote = absurd taken
    by (q ∷ qs') [] [] us o are taken types values given noted uses wrote = absurd taken
    by (q ∷ qs') [] (g ∷ hs) us o are taken types values given noted uses wrote = absurd are
    by (q ∷ qs') (a ∷ as') hs us (inl z) are taken types values given noted uses wrote = absurd (let y : ⊥ = omega (arith, z) in y)
    by (q ∷ qs') (a ∷ as') hs us (inr z) are taken types values given noted uses wrote = absurd (let y : ⊥ = omega (arith, z) in y)

-- ---- credits

pub credited : (tb : Table) (ls : List Lodged) (qs : List Param) (credits : List ℕ) (gs : List Written) (vs : Values) (first mid now : Loading) (r s : Ready) (words : List ℕ) → ArePut tb ls qs gs vs first mid r → AreCreditsMade credits mid now words → s.words.items ≡ r.words.items ++ words → s.values.items ≡ r.values.items → s.credits.items ≡ words → IsReady tb ls qs credits gs vs first now s
credited tb ls qs credits gs vs first mid now r s words p k pushed noted kept =
    let more : AreMade mid now (λ y. count y k.places) = record { once = k.once; kept = k.kept } in
    record {
      trees = p.trees;
      spares = k.places;
      given = p.given;
      values = p.values;
      stand = all_on tb mid.cells now.cells (types_of qs) p.trees (λ y some. k.kept y (p.alive y some)) p.stand;
      zero = k.zero;
      words = pushed ∙ ap (λ ws. ws ++ words) p.words ∙ ap (λ ws. words_of p.trees ++ ws) k.named;
      noted = noted ∙ p.noted;
      credits_are = kept ∙ k.named;
      made = made_both first mid now (λ y. fresh_uses gs p.trees y) (λ y. count y k.places) (λ y. fresh_uses gs p.trees y + count y k.places) (λ y. refl) p.made more;
      free = λ n le. (let f = p.free n le in let g = k.free n le in let c = credits_are n credits in omega (arith, f, g, c));
      lie = lie_on tb ls mid now (λ y. count y k.places) more p.lie;
    }

-- ---- iterators of two lists

pub sides : {A B : Type 0} (i : Iter A) (j : Iter B) → ((x : Iter A) × ((length i.rest.now ≡ 0) × (x ≡ i))) ⊎ ((y : Iter B) × ((length j.rest.now ≡ 0) × (y ≡ j))) → (length i.rest.now ≡ 0) ⊎ (length j.rest.now ≡ 0)
sides i j (inl h) = inl (h.1).0
sides i j (inr h) = inr (h.1).0
