use Rattle.np_manifests.specs.Lists.{list_line, manifest_text}
use Rattle.np_command_flatten.proofs.FlatLemmas.{estate_of-flat, policies-apart, policies-few, policies-printable}
use Rattle.np_command_flatten.proofs.LawfulReads.{estate-lawful}
use Rattle.np_command_flatten.proofs.ListLemmas.{json_of-list_line, json_of-list_text}
use Rattle.np_command_flatten.proofs.laws.flat_policies_are_read_again.Goals as goal
use Rattle.np_flatten.specs.Prelude.{flat_policies}

pub returns : goal.returns
returns c = record {
  printable = policies-printable;
  few = policies-few;
  apart = policies-apart;
  text = λ texts lists read.
      estate_of-flat texts lists (manifest_text (flat_policies lists)) read (json_of-list_text (flat_policies lists) (policies-printable lists (estate-lawful texts lists read)));
  line = λ texts lists read.
      estate_of-flat texts lists (list_line (flat_policies lists)) read (json_of-list_line (flat_policies lists) (policies-printable lists (estate-lawful texts lists read)));
}
