use Rattle.std.proofs.Common.{◌∙◌, None, Some, codes, refl}
use Rattle.clap.specs.Matches.{found_of}
use Rattle.clap.specs.Walk.{rows_of}
use Rattle.np_conns.specs.Prelude.{proto_named}
use Rattle.np_args.proofs.AskedLemmas.{value_read}
use Rattle.np_args.proofs.EvaluateLemmas.{evaluate_of-values}
use Rattle.np_args.specs.Prelude.{number_to}
use Rattle.np_args.proofs.evaluate_words.EvaluateWordsCommandWords.job.Goals as goal

pub returns-in_err-proto-clause-usage : goal.returns-in_err-proto-clause-usage
returns-in_err-proto-clause-usage c = λ usage.
    let found = found_of c.args.matches.now in
    evaluate_of-values (rows_of found) None _ _ _ _
    (value_read proto_named (codes "protocol") found c.get_str.result c.and_then.result c.get_str.ensures c.and_then.ensures ∙ c.in_err-proto.ensures.ok_part)
    refl refl refl refl

pub returns-in_err-port-clause-usage : goal.returns-in_err-port-clause-usage
returns-in_err-port-clause-usage c = λ usage.
    let found = found_of c.args.matches.now in
    evaluate_of-values (rows_of found) (Some c.in_ok-proto.proto) None _ _ _
    (value_read proto_named (codes "protocol") found c.get_str.result c.and_then.result c.get_str.ensures c.and_then.ensures ∙ c.in_ok-proto.ensures.ok_part)
    (value_read (number_to 65535) (codes "port") found c.get_str-2.result c.and_then-2.result c.get_str-2.ensures c.and_then-2.ensures ∙ c.in_err-port.ensures.ok_part)
    refl refl refl

pub returns-clause-job : goal.returns-clause-job
returns-clause-job c =
    let found = found_of c.args.matches.now in
    evaluate_of-values (rows_of found) (Some c.in_ok-proto.proto) (Some c.in_ok-port.port) (Some c.in_ok-files.files) (Some c.in_ok-from.from) (Some c.in_ok-to.to)
    (value_read proto_named (codes "protocol") found c.get_str.result c.and_then.result c.get_str.ensures c.and_then.ensures ∙ c.in_ok-proto.ensures.ok_part)
    (value_read (number_to 65535) (codes "port") found c.get_str-2.result c.and_then-2.result c.get_str-2.ensures c.and_then-2.ensures ∙ c.in_ok-port.ensures.ok_part)
    c.in_ok-files.ensures.files c.in_ok-from.ensures.end c.in_ok-to.ensures.end
