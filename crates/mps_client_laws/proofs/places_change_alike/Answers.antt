use Rattle.mps_client_laws.proofs.Places.{alloc_shows_zeros, allocs_show_alike, cache_alloc_shows_zeros, cache_free_shows_nothing, free_shows_nothing, frees_show_alike}
use Rattle.mps_client_laws.proofs.places_change_alike.Goals as goal

pub returns : goal.returns
returns c = record {
  alloc = alloc_shows_zeros;
  calloc = cache_alloc_shows_zeros;
  free = free_shows_nothing;
  cfree = cache_free_shows_nothing;
  allocs = allocs_show_alike;
  frees = frees_show_alike;
}
