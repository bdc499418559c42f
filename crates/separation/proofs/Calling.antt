-- Call and Tail: the frame that is entered has its arguments, and each cell is owned as often as before.
use Rattle.std.proofs.Common.{◌≡◌, ℕ, zero, suc, ◌+◌, ◌-◌, ◌≤◌, Bool, true, false, ◌&&◌, List, [], ◌∷◌, ◌++◌, length, map, drop, Option, Some, None, refl, sym, ap, ap₂, ◌∙◌, subst, true≢false, arith, nat_lt, ◌==◌, if◌then◌else◌}
use Rattle.std.specs.Prelude.{is_some, option_and_then, replicate}
use Rattle.std.proofs.lemmas.Option.{none-some, same_Some, option_and_then_some}
use Rattle.separation_kinds.specs.fip_language.Store.{Placed}
use Rattle.separation_kinds.specs.fip_base.declared.plain.Param.{Param}
use Rattle.separation_kinds.specs.cell_code.declared.code.Instr.{Instr}
use Rattle.separation_kinds.specs.cell_code.declared.code.Instr.TheVariants as I
use Rattle.separation_kinds.specs.cell_code.declared.kind.Kind.{Kind}
use Rattle.separation_kinds.specs.cell_code.declared.kind.Kind.TheVariants.{Credit}
use Rattle.separation_kinds.specs.machine_semantics.Cells.{Store}
use Rattle.separation_kinds.specs.cell_code.Plain.{PlainFunction, PlainCode, function_at, results_of, results}
use Rattle.separation_kinds.specs.machine_semantics.Rows.{read_all}
use Rattle.separation_kinds.specs.machine_semantics.States.{State}
use Rattle.separation_kinds.specs.machine_semantics.Steps.{first_words, first_frame, called, called_with, replaced}
use Rattle.separation_kinds.specs.machine_semantics.Apart.{Holding, owned_uses, owned_trees}
use Rattle.separation_kinds.specs.code_rules.Codes.{label_at, params, credits, params_of, credits_of}
use Rattle.separation_kinds.specs.code_rules.Kinds.{at, is_free, are_free}
use Rattle.separation_kinds.specs.code_rules.Entry.{param_kind, gones, entry}
use Rattle.separation_kinds.specs.code_rules.Ranges.{are_below}
use Rattle.separation_kinds.specs.code_rules.Asked.{destinations, same_types, tail_left}
use Rattle.separation_kinds.specs.code_rules.Handing.{pass_all, hand_all, lend_all, kept_if, arguments}
use Rattle.separation_kinds.specs.code_rules.Endings.{nothing_owned}
use Rattle.separation_kinds.specs.code_rules.Flow.{IsInstr, KnownAt, is_as_asked}
use Rattle.separation_kinds.specs.code_rules.Breaks.{IsSound}
use Rattle.separation_kinds.specs.Meanings.{AreMeant, owned_by, sum_from, word_at}
use Rattle.separation_kinds.proofs.Basics.{pick, both, equal, below, length_map}
use Rattle.separation_kinds.proofs.KindLemmas.{free_uses, owned_within}
use Rattle.separation_kinds.proofs.Words.{read_words}
use Rattle.separation_kinds.proofs.Passing.{Covers, all_passed, all_handed, all_lent, EachMeans, kinds_uses, each_argument, arguments_sum, hold_at, entered_meant, entered_sum}
use Rattle.separation.proofs.ReadingRows.{get_some}
use Rattle.separation.specs.Alive.{Frozen, frozen_slots, lower_trees, IsAlive, IsGood}
use Rattle.separation.proofs.Sound.{formed, HasForm, has_form, good_map, spends}
use Rattle.separation.proofs.Lower.{slots_owned, lies_owned, lies_left, lies_right, all_above}
pub use Rattle.separation_kinds.proofs.machine_semantics.cell_code.fip_base.fip_language.Facts.{length_append, some_of as some_left}

-- ---- arguments

drop_length : {A : Type 0} (xs : List A) (n m : ℕ) → length xs ≡ n + m → length (drop n xs) ≡ m
drop_length xs zero m e = let z : length xs ≡ m = omega arith in z
drop_length [] (suc n) m e = absurd (omega arith)
drop_length (x ∷ xs) (suc n) m e = drop_length xs n m (omega arith)

kept_is : (b : Bool) (ks left : List Kind) → kept_if b ks ≡ Some left → (b ≡ true) × (ks ≡ left)
kept_is true ks left e = (refl, same_Some ks left e)
kept_is false ks left e = absurd (none-some left e)

-- what `arguments` says
pub record Arguments (c : PlainCode) (tail : Bool) (ks : List Kind) (ps : List Param) (cs rs : List ℕ) (left : List Kind) : Type 0 where
  pub number : length rs ≡ length ps + length cs
  pub middle : List Kind
  pub passed : pass_all c.types ks ps rs ≡ Some middle
  pub handed : hand_all middle cs (drop (length ps) rs) ≡ Some left
  pub lent : lend_all c.types tail left ps rs ≡ true

abbrev handing : PlainCode → Bool → List Kind → List Param → List ℕ → List ℕ → Option (List Kind)
handing c tail ks ps cs rs = option_and_then (λ left. kept_if (lend_all c.types tail left ps rs) left) (option_and_then (λ left. hand_all left cs (drop (length ps) rs)) (pass_all c.types ks ps rs))

all_handing : (c : PlainCode) (tail : Bool) (ks : List Kind) (ps : List Param) (cs rs : List ℕ) (left : List Kind) → length rs ≡ length ps + length cs → handing c tail ks ps cs rs ≡ Some left → Arguments c tail ks ps cs rs left
all_handing c tail ks ps cs rs left n e = option_and_then_some (λ l. kept_if (lend_all c.types tail l ps rs) l) (option_and_then (λ l. hand_all l cs (drop (length ps) rs)) (pass_all c.types ks ps rs)) left e (λ l more kept.
    option_and_then_some (λ m. hand_all m cs (drop (length ps) rs)) (pass_all c.types ks ps rs) l more (λ m passed handed.
    let k = kept_is (lend_all c.types tail l ps rs) l left kept in
    subst (Arguments c tail ks ps cs rs) k.1 (record { number = n; middle = m; passed = passed; handed = handed; lent = k.0 })))

pub arguments_are : (c : PlainCode) (tail : Bool) (ks : List Kind) (n : ℕ) (g : PlainFunction) (rs : List ℕ) (left : List Kind) → function_at c n ≡ Some g → arguments c tail ks n rs ≡ Some left → Arguments c tail ks g.params g.credits rs left
arguments_are c tail ks n g rs left is e =
    let ps : params c n ≡ g.params = ap params_of is in
    let cs : credits c n ≡ g.credits = ap credits_of is in
    subst (λ ps. Arguments c tail ks ps g.credits rs left) ps (subst (λ cs. Arguments c tail ks (params c n) cs rs left) cs
    (pick (λ o. o ≡ Some left → Arguments c tail ks (params c n) (credits c n) rs left) (length rs == length (params c n) + length (credits c n)) (handing c tail ks (params c n) (credits c n) rs) None
    (λ b h. all_handing c tail ks (params c n) (credits c n) rs left (equal (length rs) (length (params c n) + length (credits c n)) b) h)
    (λ b h. absurd (none-some left h))
    e))

-- the registers that are left, and those of the frame that is entered
pub record AreHandedOver (c : PlainCode) (tail : Bool) (s : Store) (below under : List Placed) (ks : List Kind) (ws : ℕ → ℕ) (hs : ℕ → Holding) (g : PlainFunction) (rs : List ℕ) (left : List Kind) : Type 0 where
  pub wide : length left ≡ length ks
  pub meant : AreMeant c.types s below (at left) ws hs
  pub number : length rs ≡ length g.params + length g.credits
  pub each : Covers tail below under left hs → EachMeans c.types s under ws hs (map (param_kind c.types) g.params ++ map Credit g.credits) rs
  pub count : (q : ℕ) → owned_by q (at left) hs (length ks) + kinds_uses q hs (map (param_kind c.types) g.params ++ map Credit g.credits) rs ≡ owned_by q (at ks) hs (length ks)

pub handed_over : (c : PlainCode) (tail : Bool) (s : Store) (below under : List Placed) (ks : List Kind) (ws : ℕ → ℕ) (hs : ℕ → Holding) (n : ℕ) (g : PlainFunction) (rs : List ℕ) (left : List Kind) → function_at c n ≡ Some g → arguments c tail ks n rs ≡ Some left → AreMeant c.types s below (at ks) ws hs → AreHandedOver c tail s below under ks ws hs g rs left
handed_over c tail s below under ks ws hs n g rs left is e m =
    let a = arguments_are c tail ks n g rs left is e in
    let p = all_passed c.types s below under ks ws hs g.params rs a.middle a.passed m in
    let h = all_handed c.types s below under a.middle ws hs g.credits (drop (length g.params) rs) left a.handed p.meant in
    let number = a.number in
    record {
      wide = h.wide ∙ p.wide;
      meant = h.meant;
      number = a.number;
      each = λ covers. each_argument c.types s under ws hs g.params g.credits rs a.number p.each (all_lent tail c.types s below under left ws hs g.params rs (omega arith) covers a.lent h.meant) h.each;
      count = λ q.
          let x = p.count q in
          let y = h.count q in
          let z = arguments_sum q c.types hs g.params g.credits rs in
          let l = ap (owned_by q (at left) hs) p.wide in
          let k = ap (owned_by q (at a.middle) hs) p.wide in
          omega arith;
    }

-- ---- the frame that is entered

no_label_zero : (c : PlainCode) (g : PlainFunction) → HasForm c g → label_at g.labels 0 ≡ None
no_label_zero c g form = by (label_at g.labels 0) refl
  where
    by : (o : Option (List Kind)) → label_at g.labels 0 ≡ o → label_at g.labels 0 ≡ None
    by None e = e
    by (Some m) e = let z = (good_map c.types g 0 g.labels 0 m form.maps e).above in absurd (let y : ⊥ = omega arith in y)

pub known_entry : (c : PlainCode) (g : PlainFunction) → HasForm c g → KnownAt c g 0 (entry c g)
known_entry c g form = rw (no_label_zero c g form) refl

length_gones : (n : ℕ) → length (gones n) ≡ n
length_gones zero = refl
length_gones (suc n) = ap suc (length_gones n)

length_replicate : (n w : ℕ) → length (replicate n w) ≡ n
length_replicate zero w = refl
length_replicate (suc n) w = ap suc (length_replicate n w)

pub entry_wide : (c : PlainCode) (g : PlainFunction) → HasForm c g → length (entry c g) ≡ g.registers
entry_wide c g form =
    let a = length_append (map (param_kind c.types) g.params ++ map Credit g.credits) (gones (g.registers - (length g.params + length g.credits))) in
    let b = length_append (map (param_kind c.types) g.params) (map Credit g.credits) in
    let d = length_map (param_kind c.types) g.params in
    let e = length_map Credit g.credits in
    let h = length_gones (g.registers - (length g.params + length g.credits)) in
    let room = form.room in
    omega arith

pub first_long : (n : ℕ) (vs : List ℕ) → length vs ≤ n → length (first_words n vs) ≡ n
first_long n vs h = let a = length_append vs (replicate (n - length vs) 0) in let b = length_replicate (n - length vs) 0 in omega arith

-- a frame of function g that begins
pub record Begins (c : PlainCode) (s : Store) (under : List Placed) (g : PlainFunction) (ws : ℕ → ℕ) (hs : ℕ → Holding) (rs : List ℕ) : Type 0 where
  pub form : HasForm c g
  pub instr : Instr
  pub is_instr : IsInstr g 0 instr
  pub long : length (first_words g.registers (map ws rs)) ≡ length (entry c g)
  pub meant : AreMeant c.types s under (at (entry c g)) (word_at (first_words g.registers (map ws rs))) (hold_at hs rs)
  pub count : (q : ℕ) → owned_by q (at (entry c g)) (hold_at hs rs) (length (entry c g)) ≡ kinds_uses q hs (map (param_kind c.types) g.params ++ map Credit g.credits) rs

pub begins : (c : PlainCode) (s : Store) (under : List Placed) (n : ℕ) (g : PlainFunction) (ws : ℕ → ℕ) (hs : ℕ → Holding) (rs : List ℕ) → IsSound c → function_at c n ≡ Some g → length rs ≡ length g.params + length g.credits → EachMeans c.types s under ws hs (map (param_kind c.types) g.params ++ map Credit g.credits) rs → Begins c s under g ws hs rs
begins c s under n g ws hs rs sound is number e =
    let form = has_form c g (formed c n g sound is) in
    let x = get_some g.instrs 0 form.some in
    let room = form.room in
    let few = length_map ws rs in
    record {
      form = form;
      instr = x.0;
      is_instr = x.1;
      long = first_long g.registers (map ws rs) (omega arith) ∙ sym (entry_wide c g form);
      meant = entered_meant c.types s under ws hs (map (param_kind c.types) g.params ++ map Credit g.credits) rs (replicate (g.registers - length (map ws rs)) 0) (g.registers - (length g.params + length g.credits)) e;
      count = λ q. entered_sum q c.types s under ws hs (map (param_kind c.types) g.params ++ map Credit g.credits) rs (g.registers - (length g.params + length g.credits)) e;
    }

-- ---- Call

by_free : (c : PlainCode) (types kept : List ℕ) (s : State) (n : ℕ) (g : PlainFunction) (vs : List ℕ) (free : ℕ) → ((free : ℕ) → IsAlive c types kept (record s { running = first_frame n g vs; waiting = s.running ∷ s.waiting; free = free })) → IsGood c types kept s (called_with s n g free vs)
by_free c types kept s n g vs zero h = tt
by_free c types kept s n g vs (suc free) h = h free

tail_is : (b : Bool) (o : Option (List Kind)) (left : List Kind) → (if b then o else None) ≡ Some left → (b ≡ true) × (o ≡ Some left)
tail_is true o left e = (refl, e)
tail_is false o left e = absurd (none-some left e)

pub callee_at : (c : PlainCode) (n : ℕ) → nat_lt n (length c.functions) ≡ true → (g : PlainFunction) × (function_at c n ≡ Some g)
callee_at c n e = get_some c.functions n (below n (length c.functions) e)

entered_alive : (c : PlainCode) (types kept : List ℕ) (s : State) (n : ℕ) (rs ds : List ℕ) (left : List Kind) (g : PlainFunction) (free : ℕ) → IsSound c → (a : IsAlive c types kept s) → IsInstr a.function s.running.at (I.Call n rs ds) → is_as_asked c a.function s.running.at a.kinds (I.Call n rs ds) ≡ true → function_at c n ≡ Some g → arguments c false a.kinds n rs ≡ Some left → IsAlive c types kept (record s { running = first_frame n g (map (word_at s.running.words) rs); waiting = s.running ∷ s.waiting; free = free })
entered_alive c types kept s n rs ds left g free sound a instr asked is e =
    let below : List Placed = lower_trees a.frozen a.lent in
    let ws : List ℕ = s.running.words in
    let top : Frozen = record { kinds = left; words = ws; holds = a.holds } in
    let under : List Placed = lower_trees (top ∷ a.frozen) a.lent in
    let h = handed_over c false s.store below under a.kinds (word_at ws) a.holds n g rs left is e a.meant in
    let covers : Covers false below under left a.holds = record {
      own = λ r y t o held. lies_left y (owned_trees (frozen_slots top)) below (lies_owned left (word_at ws) a.holds r y (owned_within left r o) o held);
      lower = λ x l. lies_right x (owned_trees (frozen_slots top)) below l;
    } in
    let b = begins c s.store under n g (word_at ws) a.holds rs sound is h.number (h.each covers) in
    record {
      store = a.store;
      function = g;
      is = is;
      kinds = entry c g;
      known = known_entry c g b.form;
      instr = b.instr;
      is_instr = b.is_instr;
      wide = entry_wide c g b.form;
      long = b.long;
      holds = hold_at a.holds rs;
      frozen = top ∷ a.frozen;
      lent = a.lent;
      meant = b.meant;
      waiting = (
        record {
          function = a.function;
          is = a.is;
          before = a.kinds;
          known = a.known;
          callee = n;
          sources = rs;
          destinations = ds;
          instr = instr;
          asked = asked;
          left = e;
          results = refl;
          wide = h.wide ∙ a.wide;
          words = refl;
          long = a.long ∙ sym h.wide;
          meant = h.meant;
        },
        a.waiting,
      );
      arguments = a.arguments;
      once = λ q.
          let x = h.count q in
          let y = b.count q in
          let z = slots_owned q left (word_at ws) a.holds in
          let l = ap (owned_by q (at left) a.holds) h.wide in
          let o = a.once q in
          omega arith;
    }

pub call_good : (c : PlainCode) (types kept : List ℕ) (s : State) (n : ℕ) (rs ds : List ℕ) → IsSound c → (a : IsAlive c types kept s) → IsInstr a.function s.running.at (I.Call n rs ds) → is_as_asked c a.function s.running.at a.kinds (I.Call n rs ds) ≡ true → IsGood c types kept s (called s n (function_at c n) (read_all s.running.words rs))
call_good c types kept s n rs ds sound a instr asked =
    let p = both (nat_lt n (length c.functions) && (are_below a.function.registers rs && are_below a.function.registers ds)) _ asked in
    let q = both (nat_lt n (length c.functions)) (are_below a.function.registers rs && are_below a.function.registers ds) p.0 in
    let r = both (are_below a.function.registers rs) (are_below a.function.registers ds) q.1 in
    let t = both (is_some (arguments c false a.kinds n rs)) (destinations c a.kinds (I.Call n rs ds)) p.1 in
    let g = callee_at c n q.0 in
    let left = some_left (arguments c false a.kinds n rs) t.0 in
    let read : read_all s.running.words rs ≡ Some (map (word_at s.running.words) rs) = read_words s.running.words rs (subst (λ m. are_below m rs ≡ true) (sym (a.long ∙ a.wide)) r.0) in
    subst (λ o. IsGood c types kept s (called s n o (read_all s.running.words rs))) (sym g.1) (subst (λ o. IsGood c types kept s (called s n (Some g.0) o)) (sym read)
    (by_free c types kept s n g.0 (map (word_at s.running.words) rs) s.free (λ free. entered_alive c types kept s n rs ds left.0 g.0 free sound a instr asked g.1 left.1)))

-- ---- Tail

same_types_is : (xs ys : List ℕ) → same_types xs ys ≡ true → xs ≡ ys
same_types_is [] [] e = refl
same_types_is [] (y ∷ ys) e = absurd (true≢false (sym e))
same_types_is (x ∷ xs) [] e = absurd (true≢false (sym e))
same_types_is (x ∷ xs) (y ∷ ys) e = let p = both (x == y) (same_types xs ys) e in ap₂ (λ z zs. z ∷ zs) (equal x y p.0) (same_types_is xs ys p.1)

pub free_at : (ks : List Kind) (r : ℕ) → are_free ks ≡ true → is_free (at ks r) ≡ true
free_at [] r e = refl
free_at (k ∷ ks) zero e = (both (is_free k) (are_free ks) e).0
free_at (k ∷ ks) (suc r) e = free_at ks r (both (is_free k) (are_free ks) e).1

sum_none : (f : ℕ → ℕ) (i n : ℕ) → ((r : ℕ) → f r ≡ 0) → sum_from f i n ≡ 0
sum_none f i zero h = refl
sum_none f i (suc n) h = let a = h i in let b = sum_none f (suc i) n h in omega arith

pub free_sum : (q : ℕ) (ks : List Kind) (hs : ℕ → Holding) (n : ℕ) → are_free ks ≡ true → owned_by q (at ks) hs n ≡ 0
free_sum q ks hs n e = sum_none (λ r. owned_uses q (at ks r) (hs r)) 0 n (λ r. free_uses q (at ks r) (hs r) (free_at ks r e))

tail_alive : (c : PlainCode) (types kept : List ℕ) (s : State) (n : ℕ) (rs : List ℕ) (left : List Kind) (g : PlainFunction) → IsSound c → (a : IsAlive c types kept s) → function_at c n ≡ Some g → arguments c true a.kinds n rs ≡ Some left → are_free left ≡ true → results c n ≡ a.function.results → IsAlive c types kept (record s { running = first_frame n g (map (word_at s.running.words) rs) })
tail_alive c types kept s n rs left g sound a is e free same =
    let below : List Placed = lower_trees a.frozen a.lent in
    let ws : List ℕ = s.running.words in
    let h = handed_over c true s.store below below a.kinds (word_at ws) a.holds n g rs left is e a.meant in
    let covers : Covers true below below left a.holds = record {
      own = λ r y t o held. absurd (true≢false t);
      lower = λ x l. l;
    } in
    let b = begins c s.store below n g (word_at ws) a.holds rs sound is h.number (h.each covers) in
    record {
      store = a.store;
      function = g;
      is = is;
      kinds = entry c g;
      known = known_entry c g b.form;
      instr = b.instr;
      is_instr = b.is_instr;
      wide = entry_wide c g b.form;
      long = b.long;
      holds = hold_at a.holds rs;
      frozen = a.frozen;
      lent = a.lent;
      meant = b.meant;
      waiting = all_above c s.store a.lent types s.running.function n s.waiting a.frozen (ap results_of a.is ∙ sym same) a.waiting;
      arguments = a.arguments;
      once = λ q.
          let x = h.count q in
          let y = b.count q in
          let z = free_sum q left a.holds (length a.kinds) free in
          let o = a.once q in
          omega arith;
    }

pub tail_good : (c : PlainCode) (types kept : List ℕ) (s : State) (n : ℕ) (rs : List ℕ) → IsSound c → (a : IsAlive c types kept s) → IsInstr a.function s.running.at (I.Tail n rs) → is_as_asked c a.function s.running.at a.kinds (I.Tail n rs) ≡ true → IsGood c types kept s (replaced s n (function_at c n) (read_all s.running.words rs))
tail_good c types kept s n rs sound a instr asked =
    let p = both (nat_lt n (length c.functions) && are_below a.function.registers rs) _ asked in
    let q = both (nat_lt n (length c.functions)) (are_below a.function.registers rs) p.0 in
    let t = both (is_some (tail_left c a.function a.kinds n rs)) (destinations c a.kinds (I.Tail n rs)) p.1 in
    let g = callee_at c n q.0 in
    let left = some_left (tail_left c a.function a.kinds n rs) t.0 in
    let free : are_free left.0 ≡ true = subst (λ o. nothing_owned o ≡ true) left.1 (spends c s.running.function s.running.at a.function a.kinds (I.Tail n rs) sound a.is (record { known = a.known; instr = instr })) in
    let fit = tail_is (same_types (results c n) a.function.results) (arguments c true a.kinds n rs) left.0 left.1 in
    let read : read_all s.running.words rs ≡ Some (map (word_at s.running.words) rs) = read_words s.running.words rs (subst (λ m. are_below m rs ≡ true) (sym (a.long ∙ a.wide)) q.1) in
    subst (λ o. IsGood c types kept s (replaced s n o (read_all s.running.words rs))) (sym g.1) (subst (λ o. IsGood c types kept s (replaced s n (Some g.0) o)) (sym read)
    (tail_alive c types kept s n rs left.0 g.0 sound a g.1 fit.1 free (same_types_is (results c n) a.function.results fit.0)))
