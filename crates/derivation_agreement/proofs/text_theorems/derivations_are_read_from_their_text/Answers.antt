use Rattle.derivation_agreement.proofs.TextWhole as W
use Rattle.derivation_agreement.proofs.text_theorems.derivations_are_read_from_their_text.Goals as goal

pub returns : goal.returns
returns c = record { read = W.is_read; within = W.made_within; made = W.made_is_read }
