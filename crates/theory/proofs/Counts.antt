-- CountsSuffice: what is written is within I and L, numbers of variables within V, and texts have the lengths that document 01 gives.
use Rattle.theory.specs.Claims.Counts.{CountsSuffice}
use Rattle.theory.proofs.ClauseCounts.{clauses-within, literals-within, numbers-within}
use Rattle.theory.proofs.CaseLengths.{case-lengths, longest-case}

pub counts : CountsSuffice
counts =
    record {
      clauses = clauses-within;
      literals = literals-within;
      numbers = numbers-within;
      case_lengths = case-lengths;
      longest = longest-case;
    }
