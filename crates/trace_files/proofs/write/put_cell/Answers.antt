use Rattle.std.proofs.Common.{◌≡◌, ◌∙◌, ◌%◌, [], ◌∷◌, ◌++◌, ap, length}
use Rattle.run_loading.specs.TraceText.{big_endian, words_text}
use Rattle.trace_files.proofs.Writing.{one_byte, then_put}
use Rattle.trace_files.proofs.write.put_cell.Goals as goal

pub returns : goal.returns
returns c =
    let cell = c.args.cell.now in
    let ws = cell.fields.items in
    let first = c.args.text.now.items in
    let place = c.put_u32.new.text.items in
    let tag = c.put_u32-2.new.text.items in
    let size = c.push.new.self.items in
    let last = c.put_words.new.text.items in
    let one : size ≡ tag ++ big_endian 1 (length ws) = c.in_ok-push.ensures.items ∙ ap (λ bs. tag ++ bs) (ap (λ n. n % 256 ∷ []) (c.len.ensures ∙ cell.fields.ok.0) ∙ one_byte (length ws)) in
    record { text = then_put first place last (big_endian 4 cell.place) _ c.in_ok-put_u32.ensures.text (then_put place tag last (big_endian 4 cell.tag) _ c.in_ok-put_u32-2.ensures.text (then_put tag size last (big_endian 1 (length ws)) (words_text ws) one (c.in_ok-put_words.ensures.text ∙ ap (λ us. size ++ words_text us) c.as_slice.ensures.value))) }
