use Rattle.value_text.proofs.load.error_of.Goals as goal

pub returns-in-BadValue : goal.returns-in-BadValue
returns-in-BadValue c = λ f g. absurd (f c.in-BadValue.at c.in-BadValue.is)

pub returns-in-Full : goal.returns-in-Full
returns-in-Full c = λ f g. absurd (g c.in-Full.is)
