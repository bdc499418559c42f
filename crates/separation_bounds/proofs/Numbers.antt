-- The fip functions of sound code and their calls are such a graph: a call that is waited for and comes back is one of
-- the caller's own group.
use Rattle.std.proofs.Common.{◌≡◌, ℕ, zero, suc, ◌<◌, ◌≤◌, Bool, true, List, [], ◌∷◌, Option, Some, None, length, slice_get, refl, sym, ap, ◌∙◌, subst, arith, inl, inr}
use Rattle.std.proofs.lemmas.Option.{none-some, same_Some}
use Rattle.separation.specs.fip_base.declared.plain.Stack.{Stack}
use Rattle.separation.specs.call_groups.Stacks.{base_frames, own_frames}
use Rattle.separation.specs.code_rules.Breaks.{IsSound}
use Rattle.separation.specs.code_rules.Calls.{Path, SameGroup, CallsAt}
use Rattle.separation.specs.cell_code.Plain.{PlainFunction, PlainCode}
use Rattle.separation.specs.code_rules.Codes.{is_fip}
use Rattle.separation.specs.code_rules.StackNumbers.{FipCalls, words_of, words_at, HasStack}
use Rattle.separation.specs.code_rules.declared.rule.SoundRule.TheVariants.{S0, S8}
use Rattle.separation_bounds.proofs.Bounds.{Way}
use Rattle.separation_bounds.proofs.Solving.{solved}
use Rattle.separation.proofs.separation_kinds.machine_semantics.cell_code.fip_base.fip_language.Facts.{get_none as not_there, get_within as there}

-- a way of fip functions is a path
path_of : (c : PlainCode) (n a b : ℕ) → Way (FipCalls c) n a b → Path c n a b
path_of c zero a b e = e
path_of c (suc n) a b (g, k, call, way) = (g, (k, call.1), path_of c n g b way)

never_back : (c : PlainCode) → IsSound c → (a b n : ℕ) → FipCalls c a b true → Way (FipCalls c) n b a → ⊥
never_back c sound a b n call way =
    let at : CallsAt c a call.1.0 b true = call.1.1 in
    let own : (call.0).0 ≡ at.function = same_Some (call.0).0 at.function (sym (call.0).1 ∙ at.is) in
    let fip : is_fip (at.function).kind ≡ true = subst (λ (f : PlainFunction). is_fip f.kind ≡ true) own (call.0).2 in
    let group : SameGroup c a b = ((1, (b, (true, call.1), refl)), (n, path_of c n b a way)) in
    sound 0 0 S0 (inl ((λ tables. sound a call.1.0 S8 (inr (tables, (at.function, at.is, inr (at.formed, record { callee = b; calls = at; fip = fip; breaks = group }))))), refl, refl, refl))

calls_within : (c : PlainCode) (a b : ℕ) (k : Bool) → FipCalls c a b k → a < length c.functions
calls_within c a b k call = there c.functions a (call.0).0 (call.0).1

words_outside : (c : PlainCode) (a : ℕ) → length c.functions ≤ a → words_at c a ≡ 0
words_outside c a out = ap words_of (not_there c.functions a out)

pub has_stack : (c : PlainCode) (n : ℕ) → IsSound c → ((held : Option Stack) → HasStack c n held → ⊥) → ⊥
has_stack c n sound none = none None (λ fip.
    solved (FipCalls c) base_frames own_frames (length c.functions) (record { within = calls_within c; never_back = never_back c sound; outside = λ a out. refl }) (λ frames.
    solved (FipCalls c) (words_at c) (words_at c) (length c.functions) (record { within = calls_within c; never_back = never_back c sound; outside = words_outside c }) (λ words.
    none (Some (record { frames = frames.0 n; words = words.0 n })) (fip, record { frames = frames.0; words = words.0; are_frames = frames.1; are_words = words.1; is = refl }))))
