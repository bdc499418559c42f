use Rattle.fip_library.proofs.Texts.{program_so, never_refused}
use Rattle.fip_library.proofs.typed.Goals as goal

pub returns-in-Ok-clause-program : goal.returns-in-Ok-clause-program
returns-in-Ok-clause-program c = program_so _ _ _ _ c.in-Some.ensures.text c.as_bytes.ensures.value c.in-Ok.ensures.typed

pub unreachable-requires : goal.unreachable-requires
unreachable-requires c = never_refused _ _ _ _ _ c.in-Some.ensures.text c.as_bytes.ensures.value c.in-Err-Refused.ensures.typed c.in-Err-Refused.field-0-is
