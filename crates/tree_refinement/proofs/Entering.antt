-- A Call and a Tail end in the same on cells and on trees.
use Rattle.std.proofs.Common.{◌≡◌, ℕ, zero, suc, ◌+◌, ◌-◌, Bool, true, false, ◌&&◌, List, ◌∷◌, ◌++◌, length, map, Option, Some, None, refl, sym, ◌∙◌, subst, nat_lt, if◌then◌else◌}
use Rattle.std.specs.Prelude.{is_some, replicate}
use Rattle.std.proofs.lemmas.Option.{none-some}
use Rattle.separation_bounds.specs.cell_code.declared.code.Instr.TheVariants as I
use Rattle.separation_bounds.specs.cell_code.declared.kind.Kind.{Kind}
use Rattle.separation_bounds.specs.cell_code.declared.kind.Kind.TheVariants.{Credit}
use Rattle.separation_bounds.specs.cell_code.Plain.{PlainFunction, PlainCode, function_at, results}
use Rattle.tree_semantics.specs.machine_semantics.Cells.{Store}
use Rattle.tree_semantics.specs.machine_semantics.Rows.{read_all}
use Rattle.tree_semantics.specs.machine_semantics.States.{State}
use Rattle.tree_semantics.specs.machine_semantics.Steps.{Kinds, first_words, first_frame, called, called_with, replaced}
use Rattle.tree_semantics.specs.Contents.{Contents}
use Rattle.tree_semantics.specs.fip_language.Values.{Values}
use Rattle.tree_semantics.specs.Contents as T
use Rattle.tree_semantics.specs.States as U
use Rattle.tree_semantics.specs.Steps as N
use Rattle.separation_bounds.specs.code_rules.Kinds.{at}
use Rattle.separation_bounds.specs.code_rules.Entry.{param_kind, entry}
use Rattle.separation_bounds.specs.code_rules.Ranges.{are_below}
use Rattle.separation_bounds.specs.code_rules.Asked.{destinations, same_types, tail_left}
use Rattle.separation_bounds.specs.code_rules.Handing.{arguments}
use Rattle.separation_bounds.specs.code_rules.Flow.{IsInstr, is_as_asked}
use Rattle.separation_bounds.specs.code_rules.Breaks.{IsSound}
use Rattle.separation_bounds.specs.separation_kinds.Meanings.{word_at}
use Rattle.separation_bounds.proofs.separation_kinds.Basics.{both}
use Rattle.separation_bounds.proofs.separation_kinds.Words.{read_words}
use Rattle.separation_bounds.specs.separation.Codes.{AreKinds}
use Rattle.separation_bounds.specs.separation.Alive.{IsAlive}
use Rattle.separation_bounds.proofs.separation.Sound.{formed, has_form}
use Rattle.separation_bounds.proofs.separation.Calling.{known_entry, some_left, callee_at}
use Rattle.tree_refinement.specs.Agreement.{AreShown, IsSameFrame, IsSame, IsSameNext}
use Rattle.tree_refinement.proofs.Handing.{EachShows, entered_shown, AreHandedOn, handed_on}

-- the frame of function n that begins with these arguments
first_same : (c : PlainCode) (before waits : Kinds) (s : Store) (n : ℕ) (g : PlainFunction) (ws : ℕ → ℕ) (cs : Contents) (rs : List ℕ) → IsSound c → AreKinds c before waits → function_at c n ≡ Some g → EachShows c.types s ws cs (map (param_kind c.types) g.params ++ map Credit g.credits) rs → IsSameFrame c.types s (before n 0) (first_frame n g (map ws rs)) (N.first_frame n (T.read_all cs rs))
first_same c before waits s n g ws cs rs sound kinds is e =
    let known : before n 0 ≡ entry c g = kinds.known n 0 g (entry c g) is (known_entry c g (has_form c g (formed c n g sound is))) in
    record {
      shown = subst (λ ks. AreShown c.types s (at ks) (word_at (first_words g.registers (map ws rs))) (T.first_contents (T.read_all cs rs))) (sym known)
          (entered_shown c.types s ws cs (map (param_kind c.types) g.params ++ map Credit g.credits) rs (replicate (g.registers - length (map ws rs)) 0) (g.registers - (length g.params + length g.credits)) e);
      function = refl;
      instr = refl;
    }

-- ---- Call

by_free : (c : PlainCode) (before waits : Kinds) (types : List ℕ) (s : State) (t : U.State) (n : ℕ) (g : PlainFunction) (ws : List ℕ) (vs : Values) (free : ℕ) → ((free : ℕ) → IsSame c.types before waits (record s { running = first_frame n g ws; waiting = s.running ∷ s.waiting; free = free }) (record { running = N.first_frame n vs; waiting = t.running ∷ t.waiting; free = free })) → IsSameNext c.types before waits types s (called_with s n g free ws) (N.called_with t n free vs)
by_free c before waits types s t n g ws vs zero h = tt
by_free c before waits types s t n g ws vs (suc free) h = h free

pub call_same : (c : PlainCode) (before waits : Kinds) (types kept : List ℕ) (s : State) (t : U.State) (n : ℕ) (rs ds : List ℕ) → IsSound c → AreKinds c before waits → (a : IsAlive c types kept s) → IsSame c.types before waits s t → IsInstr a.function s.running.at (I.Call n rs ds) → is_as_asked c a.function s.running.at a.kinds (I.Call n rs ds) ≡ true → AreShown c.types s.store (at a.kinds) (word_at s.running.words) t.running.contents → IsSameNext c.types before waits types s (called s n (function_at c n) (read_all s.running.words rs)) (N.called t n (function_at c n) (T.read_all t.running.contents rs))
call_same c before waits types kept s t n rs ds sound kinds a m instr asked shown =
    let p = both (nat_lt n (length c.functions) && (are_below a.function.registers rs && are_below a.function.registers ds)) _ asked in
    let q = both (nat_lt n (length c.functions)) (are_below a.function.registers rs && are_below a.function.registers ds) p.0 in
    let r = both (are_below a.function.registers rs) (are_below a.function.registers ds) q.1 in
    let u = both (is_some (arguments c false a.kinds n rs)) (destinations c a.kinds (I.Call n rs ds)) p.1 in
    let g = callee_at c n q.0 in
    let left = some_left (arguments c false a.kinds n rs) u.0 in
    let ws : List ℕ = s.running.words in
    let cs : Contents = t.running.contents in
    let vs = T.read_all cs rs in
    let read : read_all ws rs ≡ Some (map (word_at ws) rs) = read_words ws rs (subst (λ m. are_below m rs ≡ true) (sym (a.long ∙ a.wide)) r.0) in
    let h : AreHandedOn c s.store (word_at ws) cs g.0 rs left.0 = handed_on c false s.store a.kinds (word_at ws) cs n g.0 rs left.0 g.1 left.1 shown in
    let wait : waits s.running.function s.running.at ≡ left.0 = kinds.wait s.running.function s.running.at a.function a.kinds n rs ds left.0 a.is a.known instr left.1 in
    subst (λ o. IsSameNext c.types before waits types s (called s n o (read_all ws rs)) (N.called t n o vs)) (sym g.1)
    (subst (λ o. IsSameNext c.types before waits types s (called s n (Some g.0) o) (N.called t n (Some g.0) vs)) (sym read)
    (subst (λ free. IsSameNext c.types before waits types s (called_with s n g.0 s.free (map (word_at ws) rs)) (N.called_with t n free vs)) m.free
    (by_free c before waits types s t n g.0 (map (word_at ws) rs) vs s.free (λ free. record {
      running = first_same c before waits s.store n g.0 (word_at ws) cs rs sound kinds g.1 h.each;
      waiting = (
        record { shown = subst (λ ks. AreShown c.types s.store (at ks) (word_at ws) cs) (sym wait) h.shown; function = m.running.function; instr = m.running.instr },
        m.waiting,
      );
      free = refl;
    }))))

-- ---- Tail

tail_is : (b : Bool) (o : Option (List Kind)) (left : List Kind) → (if b then o else None) ≡ Some left → o ≡ Some left
tail_is true o left e = e
tail_is false o left e = absurd (none-some left e)

pub tail_same : (c : PlainCode) (before waits : Kinds) (types kept : List ℕ) (s : State) (t : U.State) (n : ℕ) (rs : List ℕ) → IsSound c → AreKinds c before waits → (a : IsAlive c types kept s) → IsSame c.types before waits s t → is_as_asked c a.function s.running.at a.kinds (I.Tail n rs) ≡ true → AreShown c.types s.store (at a.kinds) (word_at s.running.words) t.running.contents → IsSameNext c.types before waits types s (replaced s n (function_at c n) (read_all s.running.words rs)) (N.replaced t n (function_at c n) (T.read_all t.running.contents rs))
tail_same c before waits types kept s t n rs sound kinds a m asked shown =
    let p = both (nat_lt n (length c.functions) && are_below a.function.registers rs) _ asked in
    let q = both (nat_lt n (length c.functions)) (are_below a.function.registers rs) p.0 in
    let u = both (is_some (tail_left c a.function a.kinds n rs)) (destinations c a.kinds (I.Tail n rs)) p.1 in
    let g = callee_at c n q.0 in
    let left = some_left (tail_left c a.function a.kinds n rs) u.0 in
    let fit = tail_is (same_types (results c n) a.function.results) (arguments c true a.kinds n rs) left.0 left.1 in
    let ws : List ℕ = s.running.words in
    let cs : Contents = t.running.contents in
    let vs = T.read_all cs rs in
    let read : read_all ws rs ≡ Some (map (word_at ws) rs) = read_words ws rs (subst (λ m. are_below m rs ≡ true) (sym (a.long ∙ a.wide)) q.1) in
    let h : AreHandedOn c s.store (word_at ws) cs g.0 rs left.0 = handed_on c true s.store a.kinds (word_at ws) cs n g.0 rs left.0 g.1 fit shown in
    subst (λ o. IsSameNext c.types before waits types s (replaced s n o (read_all ws rs)) (N.replaced t n o vs)) (sym g.1)
    (subst (λ o. IsSameNext c.types before waits types s (replaced s n (Some g.0) o) (N.replaced t n (Some g.0) vs)) (sym read) (record {
      running = first_same c before waits s.store n g.0 (word_at ws) cs rs sound kinds g.1 h.each;
      waiting = m.waiting;
      free = m.free;
    }))
