use Rattle.value_text.proofs.load.load_counting.Goals as goal

pub returns-in-Ok : goal.returns-in-Ok
returns-in-Ok c = λ given. c.load_counted.ensures given (c.in-Ok.ensures given.sound given.known given.short)
