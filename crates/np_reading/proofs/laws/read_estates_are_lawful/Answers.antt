use Rattle.np_reading.proofs.LawfulReading.{estate_of_items-lawful}
use Rattle.np_reading.proofs.laws.read_estates_are_lawful.Goals as goal

pub returns : goal.returns
returns c = estate_of_items-lawful
