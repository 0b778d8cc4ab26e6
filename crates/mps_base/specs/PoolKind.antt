-- The kinds of pools: what their blocks are to a collection, and their numbers in a log.
use Rattle.std.specs.Prelude.{ℕ, true, false}
use Rattle.mps_base.specs.declared.names.Kind.{Kind}
use Rattle.mps_base.specs.declared.names.Kind.TheVariants.{Amc, Amcz, Ams, Awl, Lo}
use Rattle.mps_base.specs.declared.names.KindTraits.{KindTraits}

-- what the blocks of an automatic pool are to a collection: whether it moves them, they have no references, some may be weak
abbrev pub traits_of : Kind → KindTraits
traits_of Amc = record { moves = true; leaf = false; weak = false }
traits_of Amcz = record { moves = true; leaf = true; weak = false }
traits_of Ams = record { moves = false; leaf = false; weak = false }
traits_of Awl = record { moves = false; leaf = false; weak = true }
traits_of Lo = record { moves = false; leaf = true; weak = false }

-- ---- numbers

-- the automatic pools
abbrev pub amc_number : ℕ
amc_number = 1

abbrev pub amcz_number : ℕ
amcz_number = 2

abbrev pub ams_number : ℕ
ams_number = 3

abbrev pub awl_number : ℕ
awl_number = 4

abbrev pub lo_number : ℕ
lo_number = 5

-- a manual pool whose blocks have one size
abbrev pub mfs_number : ℕ
mfs_number = 6

-- a manual pool whose blocks have any size
abbrev pub mvff_number : ℕ
mvff_number = 7

-- a manual pool that frees its blocks by frames
abbrev pub snc_number : ℕ
snc_number = 8

-- the number of an automatic pool's kind
abbrev pub kind_number : Kind → ℕ
kind_number Amc = amc_number
kind_number Amcz = amcz_number
kind_number Ams = ams_number
kind_number Awl = awl_number
kind_number Lo = lo_number
