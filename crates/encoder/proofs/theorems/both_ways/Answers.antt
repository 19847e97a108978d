-- `theorems::both_ways` meets its contract. Assumes nothing.
use Rattle.encoder.proofs.ReadBack.{encode_decode, second_writing}
use Rattle.encoder.proofs.Lines.{choice_shown}
use Rattle.encoder.proofs.theorems.both_ways.Goals as goal

pub returns-clause-read : goal.returns-clause-read
returns-clause-read c = encode_decode

pub returns-clause-again : goal.returns-clause-again
returns-clause-again c = second_writing

pub returns-clause-shown : goal.returns-clause-shown
returns-clause-shown c = choice_shown
