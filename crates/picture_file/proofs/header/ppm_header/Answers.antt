use Rattle.picture_file.proofs.Beginnings.{ppm_header_short, short_at_ok}
use Rattle.picture_file.proofs.header.ppm_header.Goals as goal

pub returns-clause-short : goal.returns-clause-short
returns-clause-short g c =
    short_at_ok c.write_header.result _ 17 (ppm_header_short c.args.width c.args.height c.requires.size.1 c.requires.size.3) c.write_header.ensures.count
