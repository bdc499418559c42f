-- What the examples break: the reversal nothing, and each that differs from it its own rule alone. What is known before
-- each instruction and what is broken there is found by computation.
use Rattle.std.proofs.Common.{◌≡◌, inl, inr, ℕ, zero, suc, true, List, [], ◌∷◌, Some, slice_get, refl, sym, subst, subst₂, true≢false, arith}
use Rattle.std.proofs.lemmas.Option.{same_Some, none-some}
use Rattle.std.specs.Prelude.{pos}
use Rattle.cell_code.specs.declared.code.Instr.{Instr}
use Rattle.cell_code.specs.declared.code.Instr.TheVariants as I
use Rattle.cell_code.specs.declared.kind.Kind.{Kind}
use Rattle.cell_code.specs.declared.kind.Kind.TheVariants.{Scalar}
use Rattle.code_rules.specs.declared.rule.SoundRule.{SoundRule}
use Rattle.code_rules.specs.declared.rule.SoundRule.TheVariants.{S0, S1, S2, S3, S4, S5, S6, S7, S8, S9}
use Rattle.cell_code.specs.Plain.{PlainFunction}
use Rattle.code_rules.specs.Headers.{is_formed}
use Rattle.code_rules.specs.Flow.{IsReachedAt}
use Rattle.code_rules.specs.Breaks.{BreaksWithin, BreaksFunction, Breaks, IsSound}
use Rattle.code_rules.specs.Example.{types, code_of, function_of, rev_with, nil_taken, acc_given, cons_taken, cons_put, again, cons_map, cons_known, reversal, bool_is_turned, takes_past_the_end, gives_what_is_gone, puts_into_a_tree, has_no_end, promises_an_int, leaves_a_tree, drops_a_tree, waits_for_itself, has_no_result, reads_after_a_take, takes_an_heir, BreaksJust}
use Rattle.code_rules.proofs.Known.{known, is_known, Sure}
use Rattle.code_rules.proofs.Found.{InRules, rules_at, found}
use Rattle.code_rules.proofs.ExampleTables.{are_sound, turned_is_not}

-- ---- the reversal

abbrev rev : PlainFunction
rev = function_of (2 ∷ []) (rev_with nil_taken acc_given cons_taken cons_put again) cons_known

rev_sure : Sure reversal rev
rev_sure zero = refl
rev_sure (suc zero) = refl
rev_sure (suc (suc zero)) = refl
rev_sure (suc (suc (suc zero))) = refl
rev_sure (suc (suc (suc (suc zero)))) = refl
rev_sure (suc (suc (suc (suc (suc zero))))) = refl
rev_sure (suc (suc (suc (suc (suc (suc i)))))) = refl

rev_breaks : (i : ℕ) (r : SoundRule) → InRules r (rules_at reversal rev i) → ⊥
rev_breaks zero r x = x
rev_breaks (suc zero) r x = x
rev_breaks (suc (suc zero)) r x = x
rev_breaks (suc (suc (suc zero))) r x = x
rev_breaks (suc (suc (suc (suc zero)))) r x = x
rev_breaks (suc (suc (suc (suc (suc zero))))) r x = x
rev_breaks (suc (suc (suc (suc (suc (suc i)))))) r x = x

pub reversal_sound : IsSound reversal
reversal_sound n i r b = rev_breaks i r (found types rev (are_sound rev) refl rev_sure n i r b).1

-- ---- a code with one violation

-- A code of one function that keeps S0 and S9 breaks a rule just where it is found to break that alone, and does.
just_one : (f : PlainFunction) (i : ℕ) (rule : SoundRule) → is_formed (code_of types f) f ≡ true → Sure (code_of types f) f → ((j : ℕ) (r : SoundRule) → InRules r (rules_at (code_of types f) f j) → (j ≡ i) × (r ≡ rule)) → BreaksWithin (code_of types f) 0 f i rule → BreaksJust (code_of types f) i rule
just_one f i rule formed sure only breaks n j other = (forth, back)
  where
    forth : Breaks (code_of types f) n j other → (n ≡ 0) × (j ≡ i) × (other ≡ rule)
    forth b = (let x = found types f (are_sound f) formed sure n j other b in let y = only j other x.1 in (x.0, y.0, y.1))

    whole : Breaks (code_of types f) 0 i rule
    whole = inr (are_sound f, (f, refl, inr (formed, breaks)))

    back : (n ≡ 0) × (j ≡ i) × (other ≡ rule) → Breaks (code_of types f) n j other
    back e = subst (λ m. Breaks (code_of types f) m j other) (sym e.0) (subst₂ (λ k r. Breaks (code_of types f) 0 k r) (sym e.1) (sym e.2) whole)

reached : (f : PlainFunction) → Sure (code_of types f) f → (i : ℕ) (ks : List Kind) (x : Instr) → known (code_of types f) f i ≡ Some ks → slice_get f.instrs i ≡ Some x → IsReachedAt (code_of types f) f i ks x
reached f sure i ks x k e = record { known = is_known (code_of types f) f sure i ks k; instr = e }

-- ---- S1

abbrev past_end : PlainFunction
past_end = function_of (2 ∷ []) (rev_with nil_taken acc_given (I.Take 0 (2 ∷ 7 ∷ [])) cons_put again) cons_known

past_end_sure : Sure takes_past_the_end past_end
past_end_sure zero = refl
past_end_sure (suc zero) = refl
past_end_sure (suc (suc zero)) = refl
past_end_sure (suc (suc (suc zero))) = refl
past_end_sure (suc (suc (suc (suc zero)))) = refl
past_end_sure (suc (suc (suc (suc (suc zero))))) = refl
past_end_sure (suc (suc (suc (suc (suc (suc i)))))) = refl

past_end_breaks : (i : ℕ) (r : SoundRule) → InRules r (rules_at takes_past_the_end past_end i) → (i ≡ 3) × (r ≡ S1)
past_end_breaks zero r x = absurd x
past_end_breaks (suc zero) r x = absurd x
past_end_breaks (suc (suc zero)) r x = absurd x
past_end_breaks (suc (suc (suc zero))) r (inl x) = (refl, x)
past_end_breaks (suc (suc (suc zero))) r (inr x) = absurd x
past_end_breaks (suc (suc (suc (suc zero)))) r x = absurd x
past_end_breaks (suc (suc (suc (suc (suc zero))))) r x = absurd x
past_end_breaks (suc (suc (suc (suc (suc (suc i)))))) r x = absurd x

pub past_end_just : BreaksJust takes_past_the_end 3 S1
past_end_just = just_one past_end 3 S1 refl past_end_sure past_end_breaks (record { instr = I.Take 0 (2 ∷ 7 ∷ []); is = refl; breaks = refl })

-- ---- S2

abbrev gives_gone : PlainFunction
gives_gone = function_of (2 ∷ []) (rev_with nil_taken (I.Ret (0 ∷ [])) cons_taken cons_put again) cons_known

gives_gone_sure : Sure gives_what_is_gone gives_gone
gives_gone_sure zero = refl
gives_gone_sure (suc zero) = refl
gives_gone_sure (suc (suc zero)) = refl
gives_gone_sure (suc (suc (suc zero))) = refl
gives_gone_sure (suc (suc (suc (suc zero)))) = refl
gives_gone_sure (suc (suc (suc (suc (suc zero))))) = refl
gives_gone_sure (suc (suc (suc (suc (suc (suc i)))))) = refl

gives_gone_breaks : (i : ℕ) (r : SoundRule) → InRules r (rules_at gives_what_is_gone gives_gone i) → (i ≡ 2) × (r ≡ S2)
gives_gone_breaks zero r x = absurd x
gives_gone_breaks (suc zero) r x = absurd x
gives_gone_breaks (suc (suc zero)) r (inl x) = (refl, x)
gives_gone_breaks (suc (suc zero)) r (inr x) = absurd x
gives_gone_breaks (suc (suc (suc zero))) r x = absurd x
gives_gone_breaks (suc (suc (suc (suc zero)))) r x = absurd x
gives_gone_breaks (suc (suc (suc (suc (suc zero))))) r x = absurd x
gives_gone_breaks (suc (suc (suc (suc (suc (suc i)))))) r x = absurd x

pub gives_gone_just : BreaksJust gives_what_is_gone 2 S2
gives_gone_just = just_one gives_gone 2 S2 refl gives_gone_sure gives_gone_breaks (record { kinds = _; instr = I.Ret (0 ∷ []); reached = reached gives_gone gives_gone_sure 2 _ _ refl refl; ranged = refl; breaks = refl })

-- ---- S3

abbrev puts_tree : PlainFunction
puts_tree = function_of (2 ∷ []) (rev_with nil_taken acc_given cons_taken (I.Put 3 2 1 (2 ∷ 1 ∷ [])) again) cons_known

puts_tree_sure : Sure puts_into_a_tree puts_tree
puts_tree_sure zero = refl
puts_tree_sure (suc zero) = refl
puts_tree_sure (suc (suc zero)) = refl
puts_tree_sure (suc (suc (suc zero))) = refl
puts_tree_sure (suc (suc (suc (suc zero)))) = refl
puts_tree_sure (suc (suc (suc (suc (suc zero))))) = refl
puts_tree_sure (suc (suc (suc (suc (suc (suc i)))))) = refl

puts_tree_breaks : (i : ℕ) (r : SoundRule) → InRules r (rules_at puts_into_a_tree puts_tree i) → (i ≡ 4) × (r ≡ S3)
puts_tree_breaks zero r x = absurd x
puts_tree_breaks (suc zero) r x = absurd x
puts_tree_breaks (suc (suc zero)) r x = absurd x
puts_tree_breaks (suc (suc (suc zero))) r x = absurd x
puts_tree_breaks (suc (suc (suc (suc zero)))) r (inl x) = (refl, x)
puts_tree_breaks (suc (suc (suc (suc zero)))) r (inr x) = absurd x
puts_tree_breaks (suc (suc (suc (suc (suc zero))))) r x = absurd x
puts_tree_breaks (suc (suc (suc (suc (suc (suc i)))))) r x = absurd x

pub puts_tree_just : BreaksJust puts_into_a_tree 4 S3
puts_tree_just = just_one puts_tree 4 S3 refl puts_tree_sure puts_tree_breaks (record { kinds = _; instr = I.Put 3 2 1 (2 ∷ 1 ∷ []); reached = reached puts_tree puts_tree_sure 4 _ _ refl refl; ranged = refl; breaks = refl })

-- ---- S4

abbrev no_end : PlainFunction
no_end = function_of (2 ∷ []) (rev_with nil_taken acc_given cons_taken cons_put []) cons_known

no_end_sure : Sure has_no_end no_end
no_end_sure zero = refl
no_end_sure (suc zero) = refl
no_end_sure (suc (suc zero)) = refl
no_end_sure (suc (suc (suc zero))) = refl
no_end_sure (suc (suc (suc (suc zero)))) = refl
no_end_sure (suc (suc (suc (suc (suc i))))) = refl

no_end_breaks : (i : ℕ) (r : SoundRule) → InRules r (rules_at has_no_end no_end i) → (i ≡ 4) × (r ≡ S4)
no_end_breaks zero r x = absurd x
no_end_breaks (suc zero) r x = absurd x
no_end_breaks (suc (suc zero)) r x = absurd x
no_end_breaks (suc (suc (suc zero))) r x = absurd x
no_end_breaks (suc (suc (suc (suc zero)))) r (inl x) = (refl, x)
no_end_breaks (suc (suc (suc (suc zero)))) r (inr x) = absurd x
no_end_breaks (suc (suc (suc (suc (suc i))))) r x = absurd x

pub no_end_just : BreaksJust has_no_end 4 S4
no_end_just = just_one no_end 4 S4 refl no_end_sure no_end_breaks (record { kinds = _; instr = cons_put; reached = reached no_end no_end_sure 4 _ _ refl refl; last = refl; breaks = refl })

-- ---- S5

abbrev promise : PlainFunction
promise = function_of (2 ∷ []) (rev_with nil_taken acc_given cons_taken cons_put again) (cons_map (1 ∷ []) (Scalar 0))

promise_sure : Sure promises_an_int promise
promise_sure zero = refl
promise_sure (suc zero) = refl
promise_sure (suc (suc zero)) = refl
promise_sure (suc (suc (suc zero))) = refl
promise_sure (suc (suc (suc (suc zero)))) = refl
promise_sure (suc (suc (suc (suc (suc zero))))) = refl
promise_sure (suc (suc (suc (suc (suc (suc i)))))) = refl

promise_breaks : (i : ℕ) (r : SoundRule) → InRules r (rules_at promises_an_int promise i) → (i ≡ 0) × (r ≡ S5)
promise_breaks zero r (inl x) = (refl, x)
promise_breaks zero r (inr x) = absurd x
promise_breaks (suc zero) r x = absurd x
promise_breaks (suc (suc zero)) r x = absurd x
promise_breaks (suc (suc (suc zero))) r x = absurd x
promise_breaks (suc (suc (suc (suc zero)))) r x = absurd x
promise_breaks (suc (suc (suc (suc (suc zero))))) r x = absurd x
promise_breaks (suc (suc (suc (suc (suc (suc i)))))) r x = absurd x

pub promise_just : BreaksJust promises_an_int 0 S5
promise_just = just_one promise 0 S5 refl promise_sure promise_breaks (record { target = 3; left = _; map = _; goes = record { kinds = _; instr = I.Test 0 0 3; reached = reached promise promise_sure 0 _ _ refl refl; asked = refl; goes = inr (refl, refl) }; label = refl; breaks = refl })

-- ---- S6

abbrev leaves_tree : PlainFunction
leaves_tree = function_of (2 ∷ []) (rev_with (I.Const 4 (pos 5)) acc_given cons_taken cons_put again) cons_known

leaves_tree_sure : Sure leaves_a_tree leaves_tree
leaves_tree_sure zero = refl
leaves_tree_sure (suc zero) = refl
leaves_tree_sure (suc (suc zero)) = refl
leaves_tree_sure (suc (suc (suc zero))) = refl
leaves_tree_sure (suc (suc (suc (suc zero)))) = refl
leaves_tree_sure (suc (suc (suc (suc (suc zero))))) = refl
leaves_tree_sure (suc (suc (suc (suc (suc (suc i)))))) = refl

leaves_tree_breaks : (i : ℕ) (r : SoundRule) → InRules r (rules_at leaves_a_tree leaves_tree i) → (i ≡ 2) × (r ≡ S6)
leaves_tree_breaks zero r x = absurd x
leaves_tree_breaks (suc zero) r x = absurd x
leaves_tree_breaks (suc (suc zero)) r (inl x) = (refl, x)
leaves_tree_breaks (suc (suc zero)) r (inr x) = absurd x
leaves_tree_breaks (suc (suc (suc zero))) r x = absurd x
leaves_tree_breaks (suc (suc (suc (suc zero)))) r x = absurd x
leaves_tree_breaks (suc (suc (suc (suc (suc zero))))) r x = absurd x
leaves_tree_breaks (suc (suc (suc (suc (suc (suc i)))))) r x = absurd x

pub leaves_tree_just : BreaksJust leaves_a_tree 2 S6
leaves_tree_just = just_one leaves_tree 2 S6 refl leaves_tree_sure leaves_tree_breaks (record { kinds = _; instr = acc_given; reached = reached leaves_tree leaves_tree_sure 2 _ _ refl refl; ranged = refl; breaks = refl })

-- ---- S7

abbrev drops_tree : PlainFunction
drops_tree = function_of (2 ∷ []) (rev_with (I.Drop 0) acc_given cons_taken cons_put again) cons_known

drops_tree_sure : Sure drops_a_tree drops_tree
drops_tree_sure zero = refl
drops_tree_sure (suc zero) = refl
drops_tree_sure (suc (suc zero)) = refl
drops_tree_sure (suc (suc (suc zero))) = refl
drops_tree_sure (suc (suc (suc (suc zero)))) = refl
drops_tree_sure (suc (suc (suc (suc (suc zero))))) = refl
drops_tree_sure (suc (suc (suc (suc (suc (suc i)))))) = refl

drops_tree_breaks : (i : ℕ) (r : SoundRule) → InRules r (rules_at drops_a_tree drops_tree i) → (i ≡ 1) × (r ≡ S7)
drops_tree_breaks zero r x = absurd x
drops_tree_breaks (suc zero) r (inl x) = (refl, x)
drops_tree_breaks (suc zero) r (inr x) = absurd x
drops_tree_breaks (suc (suc zero)) r x = absurd x
drops_tree_breaks (suc (suc (suc zero))) r x = absurd x
drops_tree_breaks (suc (suc (suc (suc zero)))) r x = absurd x
drops_tree_breaks (suc (suc (suc (suc (suc zero))))) r x = absurd x
drops_tree_breaks (suc (suc (suc (suc (suc (suc i)))))) r x = absurd x

pub drops_tree_just : BreaksJust drops_a_tree 1 S7
drops_tree_just = just_one drops_tree 1 S7 refl drops_tree_sure drops_tree_breaks (record { kinds = _; instr = I.Drop 0; reached = reached drops_tree drops_tree_sure 1 _ _ refl refl; fip = refl; breaks = refl })

-- ---- S8

abbrev waits_self : PlainFunction
waits_self = function_of (2 ∷ []) (rev_with nil_taken acc_given cons_taken cons_put (I.Call 0 (3 ∷ 0 ∷ []) (4 ∷ []) ∷ I.Ret (4 ∷ []) ∷ [])) cons_known

waits_self_sure : Sure waits_for_itself waits_self
waits_self_sure zero = refl
waits_self_sure (suc zero) = refl
waits_self_sure (suc (suc zero)) = refl
waits_self_sure (suc (suc (suc zero))) = refl
waits_self_sure (suc (suc (suc (suc zero)))) = refl
waits_self_sure (suc (suc (suc (suc (suc zero))))) = refl
waits_self_sure (suc (suc (suc (suc (suc (suc zero)))))) = refl
waits_self_sure (suc (suc (suc (suc (suc (suc (suc i))))))) = refl

waits_self_breaks : (i : ℕ) (r : SoundRule) → InRules r (rules_at waits_for_itself waits_self i) → (i ≡ 5) × (r ≡ S8)
waits_self_breaks zero r x = absurd x
waits_self_breaks (suc zero) r x = absurd x
waits_self_breaks (suc (suc zero)) r x = absurd x
waits_self_breaks (suc (suc (suc zero))) r x = absurd x
waits_self_breaks (suc (suc (suc (suc zero)))) r x = absurd x
waits_self_breaks (suc (suc (suc (suc (suc zero))))) r (inl x) = (refl, x)
waits_self_breaks (suc (suc (suc (suc (suc zero))))) r (inr x) = absurd x
waits_self_breaks (suc (suc (suc (suc (suc (suc zero)))))) r x = absurd x
waits_self_breaks (suc (suc (suc (suc (suc (suc (suc i))))))) r x = absurd x

pub waits_self_just : BreaksJust waits_for_itself 5 S8
waits_self_just = just_one waits_self 5 S8 refl waits_self_sure waits_self_breaks (record { callee = 0; calls = record { function = waits_self; is = refl; formed = refl; kinds = _; instr = I.Call 0 (3 ∷ 0 ∷ []) (4 ∷ []); reached = reached waits_self waits_self_sure 5 _ _ refl refl; call = (refl, refl); there = omega arith }; fip = refl; breaks = ((0, refl), (0, refl)) })

-- ---- S9 and S0, which are checked before

abbrev no_result : PlainFunction
no_result = function_of [] (rev_with nil_taken acc_given cons_taken cons_put again) cons_known

no_result_forth : (n j : ℕ) (other : SoundRule) → Breaks has_no_result n j other → (n ≡ 0) × (j ≡ 0) × (other ≡ S9)
no_result_forth n j other (inl x) = absurd (x.0 (are_sound no_result))
no_result_forth zero j other (inr x) = (let y = by (subst (λ g. BreaksFunction has_no_result 0 g j other) (sym (same_Some no_result x.1.0 x.1.1)) x.1.2) in (refl, y.0, y.1))
  where
    by : BreaksFunction has_no_result 0 no_result j other → (j ≡ 0) × (other ≡ S9)
    by (inl y) = (y.1, y.2)
    by (inr y) = absurd (true≢false (sym y.0))
no_result_forth (suc n) j other (inr x) = absurd (none-some x.1.0 x.1.1)

no_result_breaks : Breaks has_no_result 0 0 S9
no_result_breaks = inr (are_sound no_result, (no_result, refl, inl (refl, refl, refl)))

pub no_result_just : BreaksJust has_no_result 0 S9
no_result_just n j other = (no_result_forth n j other, λ e. subst (λ m. Breaks has_no_result m j other) (sym e.0) (subst₂ (λ k r. Breaks has_no_result 0 k r) (sym e.1) (sym e.2) no_result_breaks))

turned_forth : (n j : ℕ) (other : SoundRule) → Breaks bool_is_turned n j other → (n ≡ 0) × (j ≡ 0) × (other ≡ S0)
turned_forth n j other (inl x) = (x.1, x.2, x.3)
turned_forth n j other (inr x) = absurd (turned_is_not rev x.0)

turned_breaks : Breaks bool_is_turned 0 0 S0
turned_breaks = inl (turned_is_not rev, refl, refl, refl)

pub turned_just : BreaksJust bool_is_turned 0 S0
turned_just n j other = (turned_forth n j other, λ e. subst (λ m. Breaks bool_is_turned m j other) (sym e.0) (subst₂ (λ k r. Breaks bool_is_turned 0 k r) (sym e.1) (sym e.2) turned_breaks))

-- ---- a word that was read before its cell is taken

abbrev heir : PlainFunction
heir = function_of (2 ∷ []) (rev_with nil_taken acc_given (I.Peek 4 0 1) (I.Take 0 (2 ∷ 4 ∷ [])) (cons_put ∷ I.Tail 0 (4 ∷ 0 ∷ []) ∷ [])) cons_known

heir_sure : Sure takes_an_heir heir
heir_sure zero = refl
heir_sure (suc zero) = refl
heir_sure (suc (suc zero)) = refl
heir_sure (suc (suc (suc zero))) = refl
heir_sure (suc (suc (suc (suc zero)))) = refl
heir_sure (suc (suc (suc (suc (suc zero))))) = refl
heir_sure (suc (suc (suc (suc (suc (suc zero)))))) = refl
heir_sure (suc (suc (suc (suc (suc (suc (suc i))))))) = refl

heir_breaks : (i : ℕ) (r : SoundRule) → InRules r (rules_at takes_an_heir heir i) → ⊥
heir_breaks zero r x = x
heir_breaks (suc zero) r x = x
heir_breaks (suc (suc zero)) r x = x
heir_breaks (suc (suc (suc zero))) r x = x
heir_breaks (suc (suc (suc (suc zero)))) r x = x
heir_breaks (suc (suc (suc (suc (suc zero))))) r x = x
heir_breaks (suc (suc (suc (suc (suc (suc zero)))))) r x = x
heir_breaks (suc (suc (suc (suc (suc (suc (suc i))))))) r x = x

pub heir_sound : IsSound takes_an_heir
heir_sound n i r b = heir_breaks i r (found types heir (are_sound heir) refl heir_sure n i r b).1

abbrev following : PlainFunction
following = function_of (2 ∷ []) (rev_with nil_taken acc_given (I.Peek 4 0 1) cons_taken (I.Move 5 4 ∷ cons_put ∷ again)) cons_known

after_sure : Sure reads_after_a_take following
after_sure zero = refl
after_sure (suc zero) = refl
after_sure (suc (suc zero)) = refl
after_sure (suc (suc (suc zero))) = refl
after_sure (suc (suc (suc (suc zero)))) = refl
after_sure (suc (suc (suc (suc (suc zero))))) = refl
after_sure (suc (suc (suc (suc (suc (suc zero)))))) = refl
after_sure (suc (suc (suc (suc (suc (suc (suc zero))))))) = refl
after_sure (suc (suc (suc (suc (suc (suc (suc (suc i)))))))) = refl

after_breaks : (i : ℕ) (r : SoundRule) → InRules r (rules_at reads_after_a_take following i) → (i ≡ 5) × (r ≡ S2)
after_breaks zero r x = absurd x
after_breaks (suc zero) r x = absurd x
after_breaks (suc (suc zero)) r x = absurd x
after_breaks (suc (suc (suc zero))) r x = absurd x
after_breaks (suc (suc (suc (suc zero)))) r x = absurd x
after_breaks (suc (suc (suc (suc (suc zero))))) r (inl x) = (refl, x)
after_breaks (suc (suc (suc (suc (suc zero))))) r (inr x) = absurd x
after_breaks (suc (suc (suc (suc (suc (suc zero)))))) r x = absurd x
after_breaks (suc (suc (suc (suc (suc (suc (suc zero))))))) r x = absurd x
after_breaks (suc (suc (suc (suc (suc (suc (suc (suc i)))))))) r x = absurd x

pub after_just : BreaksJust reads_after_a_take 5 S2
after_just = just_one following 5 S2 refl after_sure after_breaks (record { kinds = _; instr = I.Move 5 4; reached = reached following after_sure 5 _ _ refl refl; ranged = refl; breaks = refl })
