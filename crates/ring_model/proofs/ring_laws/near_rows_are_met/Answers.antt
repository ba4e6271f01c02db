use Rattle.ring_model.proofs.RingLemmas.{near_hits_met, new_hits_far, met_few, met_all}
use Rattle.ring_model.proofs.ring_laws.near_rows_are_met.Goals as goal

pub returns : goal.returns
returns c = record {
  near = λ bits rows layout units query lay codes is_query size. near_hits_met bits layout units query lay is_query size rows codes;
  new = λ bits read layout units query lay codes is_query size. new_hits_far bits layout units query lay is_query size read codes;
  few = met_few;
  all = met_all;
}
