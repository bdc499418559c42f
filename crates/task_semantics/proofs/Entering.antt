-- A Call and a Tail end in the same alone and among others.
use Rattle.std.proofs.Common.{◌≡◌, ℕ, zero, suc, ◌+◌, ◌-◌, Bool, true, false, ◌&&◌, List, ◌∷◌, ◌++◌, length, map, Option, Some, None, refl, sym, ◌∙◌, subst, arith, nat_lt, if◌then◌else◌}
use Rattle.std.specs.Prelude.{is_some, replicate}
use Rattle.std.proofs.lemmas.Option.{none-some}
use Rattle.run_loading.specs.cell_code.declared.code.Instr.TheVariants as I
use Rattle.run_loading.specs.cell_code.declared.kind.Kind.{Kind}
use Rattle.run_loading.specs.cell_code.declared.kind.Kind.TheVariants.{Credit}
use Rattle.run_loading.specs.fip_language.Store.{Placed}
use Rattle.run_loading.specs.cell_code.Plain.{PlainFunction, PlainCode, function_at, results}
use Rattle.run_loading.specs.machine_semantics.Cells.{Store}
use Rattle.run_loading.specs.machine_semantics.Rows.{read_all}
use Rattle.run_loading.specs.machine_semantics.States.{State}
use Rattle.run_loading.specs.machine_semantics.Steps.{Kinds, first_words, first_frame, called, called_with, replaced}
use Rattle.run_loading.specs.code_rules.Kinds.{at}
use Rattle.run_loading.specs.code_rules.Entry.{param_kind, entry}
use Rattle.run_loading.specs.code_rules.Ranges.{are_below}
use Rattle.run_loading.specs.code_rules.Asked.{destinations, same_types, tail_left}
use Rattle.run_loading.specs.code_rules.Handing.{arguments}
use Rattle.run_loading.specs.code_rules.Flow.{IsInstr, is_as_asked}
use Rattle.run_loading.specs.code_rules.Breaks.{IsSound}
use Rattle.run_loading.specs.separation_kinds.Meanings.{word_at}
use Rattle.run_loading.proofs.separation_kinds.Basics.{both, length_map}
use Rattle.run_loading.proofs.separation_kinds.Words.{read_words}
use Rattle.run_loading.specs.separation.Codes.{AreKinds}
use Rattle.run_loading.specs.separation.Alive.{lower_trees, IsAlive}
use Rattle.run_loading.proofs.separation.Sound.{formed, has_form}
use Rattle.run_loading.proofs.separation.Calling.{known_entry, entry_wide, first_long, some_left, callee_at}
use Rattle.run_loading.proofs.separation.Calling as Calling
use Rattle.task_semantics.specs.Projected.{Renaming, IsRenamedFrame, AreRenamedWords, IsProjected}
use Rattle.task_semantics.proofs.AlikeWords.{AreAlike}
use Rattle.task_semantics.proofs.PlainPairs.{IsPair}
use Rattle.task_semantics.proofs.Frames.{in_order, GoesOn, NextAlike}
use Rattle.task_semantics.proofs.Handing.{EachAlike, entered_alike, AreHandedOver, handed_over}

-- the frame of function n that begins with these arguments
first_alike : (f : Renaming) (c : PlainCode) (before waits : Kinds) (own shared : Store) (n : ℕ) (g : PlainFunction) (ws vs : ℕ → ℕ) (rs : List ℕ) → IsSound c → AreKinds c before waits → function_at c n ≡ Some g → length rs ≡ length g.params + length g.credits → EachAlike c.types f own shared ws vs (map (param_kind c.types) g.params ++ map Credit g.credits) rs → IsRenamedFrame c.types f own shared (before n 0) (first_frame n g (map ws rs)) (first_frame n g (map vs rs))
first_alike f c before waits own shared n g ws vs rs sound kinds is number e =
    let form = has_form c g (formed c n g sound is) in
    let known : before n 0 ≡ entry c g = kinds.known n 0 g (entry c g) is (known_entry c g form) in
    let room = form.room in
    let few = length_map ws rs in
    let also = length_map vs rs in
    let zs : List ℕ = replicate (g.registers - length (map ws rs)) 0 in
    let even : length (map ws rs) ≡ length (map vs rs) = few ∙ sym also in
    let alike : AreAlike c.types f own shared (at (entry c g)) (word_at (map ws rs ++ zs)) (word_at (map vs rs ++ zs)) = entered_alike c.types f own shared ws vs (map (param_kind c.types) g.params ++ map Credit g.credits) rs zs (g.registers - (length g.params + length g.credits)) e in
    let all : AreAlike c.types f own shared (at (entry c g)) (word_at (first_words g.registers (map ws rs))) (word_at (first_words g.registers (map vs rs))) =
    subst (λ m. AreAlike c.types f own shared (at (entry c g)) (word_at (map ws rs ++ zs)) (word_at (map vs rs ++ replicate (g.registers - m) 0))) even alike in
    let long : length (first_words g.registers (map ws rs)) ≡ g.registers = first_long g.registers (map ws rs) (omega arith) in
    let mate_long : length (first_words g.registers (map vs rs)) ≡ g.registers = first_long g.registers (map vs rs) (omega arith) in
    record {
      function = refl;
      at = refl;
      words = subst (λ ks. AreRenamedWords c.types f own shared ks (first_words g.registers (map ws rs)) (first_words g.registers (map vs rs))) (sym known)
          (in_order c.types f own shared (entry c g) (first_words g.registers (map ws rs)) (first_words g.registers (map vs rs)) (long ∙ sym (entry_wide c g form)) (mate_long ∙ sym long) all);
    }

-- ---- Call

by_free : (f : Renaming) (c : PlainCode) (before waits : Kinds) (types : List ℕ) (s u : State) (n : ℕ) (g : PlainFunction) (ws vs : List ℕ) (free : ℕ) → ((free : ℕ) → GoesOn before waits c f s u (record s { running = first_frame n g ws; waiting = s.running ∷ s.waiting; free = free }) (record u { running = first_frame n g vs; waiting = u.running ∷ u.waiting; free = free })) → NextAlike before waits c f types s u (called_with s n g free ws) (called_with u n g free vs)
by_free f c before waits types s u n g ws vs zero h = tt
by_free f c before waits types s u n g ws vs (suc free) h = h free

pub call_alike : (f : Renaming) (c : PlainCode) (before waits : Kinds) (types kept : List ℕ) (s u : State) (n : ℕ) (rs ds : List ℕ) → IsSound c → AreKinds c before waits → (a : IsAlive c types kept s) → IsProjected before waits c f s u → IsPair f c a.kinds s u → IsInstr a.function s.running.at (I.Call n rs ds) → is_as_asked c a.function s.running.at a.kinds (I.Call n rs ds) ≡ true → NextAlike before waits c f types s u (called s n (function_at c n) (read_all s.running.words rs)) (called u n (function_at c n) (read_all u.running.words rs))
call_alike f c before waits types kept s u n rs ds sound kinds a m pair instr asked =
    let p = both (nat_lt n (length c.functions) && (are_below a.function.registers rs && are_below a.function.registers ds)) _ asked in
    let q = both (nat_lt n (length c.functions)) (are_below a.function.registers rs && are_below a.function.registers ds) p.0 in
    let r = both (are_below a.function.registers rs) (are_below a.function.registers ds) q.1 in
    let t = both (is_some (arguments c false a.kinds n rs)) (destinations c a.kinds (I.Call n rs ds)) p.1 in
    let g = callee_at c n q.0 in
    let left = some_left (arguments c false a.kinds n rs) t.0 in
    let ws : List ℕ = s.running.words in
    let vs : List ℕ = u.running.words in
    let read : read_all ws rs ≡ Some (map (word_at ws) rs) = read_words ws rs (subst (λ m. are_below m rs ≡ true) (sym (a.long ∙ a.wide)) r.0) in
    let also : read_all vs rs ≡ Some (map (word_at vs) rs) = read_words vs rs (subst (λ m. are_below m rs ≡ true) (sym (pair.long ∙ a.long ∙ a.wide)) r.0) in
    let h : AreHandedOver f c s.store u.store (word_at ws) (word_at vs) g.0 rs left.0 = handed_over f c false s.store u.store a.kinds (word_at ws) (word_at vs) n g.0 rs left.0 g.1 left.1 pair.alike in
    let wait : waits s.running.function s.running.at ≡ left.0 = kinds.wait s.running.function s.running.at a.function a.kinds n rs ds left.0 a.is a.known instr left.1 in
    let below : List Placed = lower_trees a.frozen a.lent in
    let wide : length left.0 ≡ length a.kinds = (Calling.handed_over c false s.store below below a.kinds (word_at ws) a.holds n g.0 rs left.0 g.1 left.1 a.meant).wide in
    let words : AreRenamedWords c.types f s.store u.store left.0 ws vs = in_order c.types f s.store u.store left.0 ws vs (a.long ∙ sym wide) pair.long h.alike in
    subst (λ o. NextAlike before waits c f types s u (called s n o (read_all ws rs)) (called u n o (read_all vs rs))) (sym g.1)
    (subst (λ o. NextAlike before waits c f types s u (called s n (Some g.0) o) (called u n (Some g.0) (read_all vs rs))) (sym read)
    (subst (λ o. NextAlike before waits c f types s u (called_with s n g.0 s.free (map (word_at ws) rs)) (called u n (Some g.0) o)) (sym also)
    (subst (λ free. NextAlike before waits c f types s u (called_with s n g.0 s.free (map (word_at ws) rs)) (called_with u n g.0 free (map (word_at vs) rs))) (sym m.free)
    (by_free f c before waits types s u n g.0 (map (word_at ws) rs) (map (word_at vs) rs) s.free (λ free. record {
      state = record {
        cells = m.cells;
        running = first_alike f c before waits s.store u.store n g.0 (word_at ws) (word_at vs) rs sound kinds g.1 h.number h.each;
        waiting = (
          record { function = m.running.function; at = m.running.at; words = subst (λ ks. AreRenamedWords c.types f s.store u.store ks ws vs) (sym wait) words },
          m.waiting,
        );
        free = refl;
        lent = m.lent;
      };
      good = pair.good;
      there = λ q. refl;
      beyond = λ q none. (refl, refl);
    })))))

-- ---- Tail

tail_is : (b : Bool) (o : Option (List Kind)) (left : List Kind) → (if b then o else None) ≡ Some left → o ≡ Some left
tail_is true o left e = e
tail_is false o left e = absurd (none-some left e)

pub tail_alike : (f : Renaming) (c : PlainCode) (before waits : Kinds) (types kept : List ℕ) (s u : State) (n : ℕ) (rs : List ℕ) → IsSound c → AreKinds c before waits → (a : IsAlive c types kept s) → IsProjected before waits c f s u → IsPair f c a.kinds s u → is_as_asked c a.function s.running.at a.kinds (I.Tail n rs) ≡ true → NextAlike before waits c f types s u (replaced s n (function_at c n) (read_all s.running.words rs)) (replaced u n (function_at c n) (read_all u.running.words rs))
tail_alike f c before waits types kept s u n rs sound kinds a m pair asked =
    let p = both (nat_lt n (length c.functions) && are_below a.function.registers rs) _ asked in
    let q = both (nat_lt n (length c.functions)) (are_below a.function.registers rs) p.0 in
    let t = both (is_some (tail_left c a.function a.kinds n rs)) (destinations c a.kinds (I.Tail n rs)) p.1 in
    let g = callee_at c n q.0 in
    let left = some_left (tail_left c a.function a.kinds n rs) t.0 in
    let fit = tail_is (same_types (results c n) a.function.results) (arguments c true a.kinds n rs) left.0 left.1 in
    let ws : List ℕ = s.running.words in
    let vs : List ℕ = u.running.words in
    let read : read_all ws rs ≡ Some (map (word_at ws) rs) = read_words ws rs (subst (λ m. are_below m rs ≡ true) (sym (a.long ∙ a.wide)) q.1) in
    let also : read_all vs rs ≡ Some (map (word_at vs) rs) = read_words vs rs (subst (λ m. are_below m rs ≡ true) (sym (pair.long ∙ a.long ∙ a.wide)) q.1) in
    let h : AreHandedOver f c s.store u.store (word_at ws) (word_at vs) g.0 rs left.0 = handed_over f c true s.store u.store a.kinds (word_at ws) (word_at vs) n g.0 rs left.0 g.1 fit pair.alike in
    subst (λ o. NextAlike before waits c f types s u (replaced s n o (read_all ws rs)) (replaced u n o (read_all vs rs))) (sym g.1)
    (subst (λ o. NextAlike before waits c f types s u (replaced s n (Some g.0) o) (replaced u n (Some g.0) (read_all vs rs))) (sym read)
    (subst (λ o. NextAlike before waits c f types s u (replaced s n (Some g.0) (Some (map (word_at ws) rs))) (replaced u n (Some g.0) o)) (sym also) (record {
      state = record {
        cells = m.cells;
        running = first_alike f c before waits s.store u.store n g.0 (word_at ws) (word_at vs) rs sound kinds g.1 h.number h.each;
        waiting = m.waiting;
        free = m.free;
        lent = m.lent;
      };
      good = pair.good;
      there = λ q. refl;
      beyond = λ q none. (refl, refl);
    })))
