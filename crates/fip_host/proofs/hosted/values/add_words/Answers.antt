use Rattle.std.proofs.Common.{◌≡◌, ℕ, ◌+◌, ◌++◌, [], ◌∷◌, List, Some, map, take, slice_get, ap, ◌∙◌, append_assoc}
use Rattle.std.proofs.lemmas.List.{map_more}
use Rattle.std.proofs.lemmas.Option.{get_or_from_slice_get, slice_get_within}
use Rattle.fip_host.specs.Telling.{argument_word}
use Rattle.fip_host.proofs.hosted.values.add_words.Goals as goal

-- one more of the mapped elements
map_next : {A B : Type 0} (f : A → B) (xs : List A) (i : ℕ) (a : A) → slice_get xs i ≡ Some a → map f (take (i + 1) xs) ≡ map f (take i xs) ++ f a ∷ []
map_next f xs i a h = map_more f xs i a (slice_get_within xs i a h) ∙ ap (λ x. map f (take i xs) ++ f x ∷ []) (get_or_from_slice_get xs i a a h)

pub loop-i-preserved : goal.loop-i-preserved
loop-i-preserved c =
    let f = argument_word c.args.kept.now in
    let here = c.in_ok-word_of.ensures.is in
    let next = map_next f c.args.arguments.now c.loop-i.i here.0 here.1 in
    let items = c.in_ok-push.ensures.items in
    let word = here.2 in
    let before = c.loop-i.invariant in
    let more = append_assoc c.args.words.now.items (map f (take c.loop-i.i c.args.arguments.now)) (f here.0 ∷ []) in
    cc
